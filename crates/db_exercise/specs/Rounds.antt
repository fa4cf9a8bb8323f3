-- Rounds are made one after another over a session at rest.
use Rattle.std.specs.Prelude.{◌≡◌, ℕ, ◌-◌, ◌≤◌, false, List, length}
use Rattle.base_bytes.specs.OrderedMap.{Map}
use Rattle.base_bytes.specs.Transactions.{Transaction, after_first, after_transactions}
use Rattle.base_devices.specs.CrashImages.{Image, LeavesOnly}
use Rattle.base_devices.specs.Frames.{KeepsCounts}
use Rattle.db_core.specs.Calls.{KeepsInPlace}
use Rattle.db_core.specs.Sessions.{DbKind, at_rest}
use Rattle.db_exercise.specs.Exercise.{Progress, ending_of, nothing_done}
use Rattle.db_tool.specs.Doing.{ToolMoment}
use Rattle.db_tool.specs.Tasks.{words_after}
use Rattle.rand_core.specs.Stream.{Stream}

-- a host with an open database, and the random words to come, at one moment
pub record RoundMoment : Type 1 where
  pub tool : ToolMoment
  pub words : Stream

abbrev pub with_words : ToolMoment → Stream → RoundMoment
with_words tool words = record { tool = tool; words = words }

-- the image opens to the map after the first few of these transactions
pub record OpensAfterSome (kind : DbKind) (m : Map) (transactions : List Transaction) (c : Image) : Type 0 where
  pub count : ℕ
  pub within : count ≤ length transactions
  pub holds : kind.opens c (after_first count m transactions)

-- These transactions were made, one after another, and nothing was printed.
pub record MakesAll (kind : DbKind) (transactions : List Transaction) (old new : ToolMoment) : Type 0 where
  pub rests : new.session ≡ at_rest (after_transactions old.session.committed transactions) new.session.load
  pub each : LeavesOnly old.host.disk new.host.disk (λ c n. (n ≡ old.host.disk.mark) × OpensAfterSome kind old.session.committed transactions c)
  pub mark : new.host.disk.mark ≡ old.host.disk.mark
  pub streams : new.host.streams ≡ old.host.streams
  pub in_place : KeepsInPlace kind old.host.disk new.host.disk
  pub faults : new.host.disk.faults ≡ old.host.disk.faults
  -- where there is none, the session is as it was, and a file that would be rewritten whole was not begun
  pub same : length transactions ≡ 0 → new.session ≡ old.session
  pub idle : length transactions ≡ 0 → kind.works_in_place ≡ false → KeepsCounts old.host.disk new.host.disk

-- Of an exercise so many rounds were made, and what they came to leads to its end.
pub record MakesRounds (kind : DbKind) (rounds count : ℕ) (old new : RoundMoment) : Type 0 where
  pub done : Progress
  pub leads : ending_of kind (rounds - count) done ≡ ending_of kind rounds (nothing_done old.tool.session old.words)
  pub counted : done.rounds ≡ count
  pub session : done.session ≡ new.tool.session
  pub words : done.words ≡ new.words
  pub drawn : new.words ≡ words_after done.drawn old.words
  pub made : MakesAll kind done.transactions old.tool new.tool
