mod FileExamples
mod LayoutExamples
mod NearExamples
mod OnePair
pub mod AnAnswer
pub mod BeforeEnd
pub mod ByteLists
pub mod Cuts
pub mod Flawless
pub mod Kept
pub mod KindLemmas
pub mod Landed
pub mod LayoutLemmas
pub mod Lists
pub mod Lives
pub mod Meanings
pub mod NoFlaw
pub mod OneAnswer
pub mod Parts
pub mod PlaceLemmas
pub mod Places
pub mod Pointers
pub mod RecordBytes
pub mod RepackLemmas
pub mod SameLog
pub mod SpelledRecords
pub mod Splice
pub mod Successors
pub mod Unique
