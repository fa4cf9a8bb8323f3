-- Heads that are mended and levels that are linked again.
use Rattle.std.specs.Prelude.{ℕ, ◌≤◌, List}
use Rattle.skip_spec.specs.Rows.{IsAmong}
use Rattle.skip_spec.specs.Opens.{Contents, IsTidyHead, Links, on_level}
use Rattle.skip_spec.specs.Near.{heads}

-- all heads are tidy under the committed end, and all levels are linked
pub record IsLinked (says : Contents) (file : List ℕ) : Type 0 where
  pub tidy : (head : ℕ) → IsAmong (heads says) head → IsTidyHead file says.header.current_size head
  pub levels : (level : ℕ) → 1 ≤ level → level ≤ 30 → Links file level 64 (on_level level says.chain)
