mod MergeLemmas
mod ReportLemmas
mod PermutationLemmas
mod FindingLemmas
mod RebuiltLemmas
mod FolderLemmas
mod IndexLemmas
mod TakingLemmas
mod PlanLemmas
mod RebuildLemmas
pub mod ContentsLemmas
