-- A session over a flat file: its kind, its state by its parts, and its tie to the disk.
use Rattle.std.proofs.Common.{refl, sym, ◌∙◌}
use Rattle.std.specs.Prelude.{◌≡◌, ℕ, ◌≤◌, Bool, true, false, List, [], Result, length}
use Rattle.std.specs.List.{All}
use Rattle.base_devices.specs.CrashImages.{Image, DiskState}
use Rattle.base_bytes.specs.OrderedMap.{Map}
use Rattle.base_bytes.specs.Transactions.{after_change}
use Rattle.base_bytes.specs.declared.limits.TheConstants.{FLAT_LIMIT}
use Rattle.base_bytes.specs.declared.change.Change.{Change}
use Rattle.db_core.specs.Refusals.{Answers, change_refusal}
use Rattle.db_core.specs.Sessions.{DbKind, DbState, at_rest, aborted, change_after}
use Rattle.db_core.specs.declared.fault.DbFault.{DbFault}
use Rattle.flat_db.specs.FlatText.{IsFlawedAt, canonical_text}
use Rattle.flat_db.specs.Entries.{EndsBy}
use Rattle.flat_db.specs.Kept.{IsKept, map_among}
use Rattle.flat_db.specs.Opening.{flat_opens}
use Rattle.flat_db.specs.declared.pairs.Pairs.{Pairs}
use Rattle.flat_db.specs.declared.session.Transaction.{Transaction}
use Rattle.flat_db.specs.declared.session.Stage.{Stage}
use Rattle.flat_db.specs.declared.session.Stage.TheVariants.{Resting, Open, Broken}

-- Flat text has no load: the size of the file that would come is that of the changed map's canonical text. A file is only synced and read when it is opened.
abbrev pub flat_kind : DbKind
flat_kind = record {
  opens = flat_opens;
  flawed = IsFlawedAt;
  limit = FLAT_LIMIT;
  empty = [];
  load_of = λ _. 0;
  is_settled = λ _. Unit {0};
  load_after = λ _ load _. load;
  size_after = λ seen _ change. length (canonical_text (after_change seen change));
  load_committed = λ load. load;
  works_in_place = false;
}

-- What a contract sees of a session: at rest over its map, or in a transaction over the map seen and the committed one, or broken.
pub data FlatSession : Type 0 where
  resting : Map → FlatSession
  within : (seen committed : Map) → (has_changed : Bool) → FlatSession
  broken : FlatSession

abbrev pub flat_state : FlatSession → DbState
flat_state (resting m) = at_rest m 0
flat_state (within seen committed has_changed) = record { seen = seen; committed = committed; load = 0; load_committed = 0; in_transaction = true; has_changed = has_changed; is_broken = false }
flat_state broken = record { seen = []; committed = []; load = 0; load_committed = 0; in_transaction = false; has_changed = false; is_broken = true }

-- one change of the session alone, answered as it is owed
abbrev pub AnswersChange : {T : Type 0} → Change → FlatSession → FlatSession → Result T DbFault → Type 0
AnswersChange change old new result =
    Answers (change_refusal flat_kind (flat_state old) change) (flat_state old) (flat_state new) (change_after flat_kind (flat_state old) change) result

-- each image that a crash may leave opens to the committed map
pub record FlatTied (session : FlatSession) (disk : DiskState) : Type 0 where
  pub leaves : (flat_state session).is_broken ≡ false → (c : Image) → disk.leaves c → flat_opens c (flat_state session).committed

-- outside a transaction the map seen is the committed one
pub outside_same : (session : FlatSession) → (flat_state session).is_broken ≡ false → (flat_state session).in_transaction ≡ false → aborted (flat_state session) ≡ flat_state session
outside_same (resting m) sound closed = refl
outside_same (within seen committed has_changed) sound closed = absurd (cc closed)
outside_same broken sound closed = absurd (cc sound)

pub broken_rests : (session : FlatSession) → (flat_state session).is_broken ≡ true → (flat_state session).in_transaction ≡ false
broken_rests (resting m) is = refl
broken_rests (within seen committed has_changed) is = absurd (cc is)
broken_rests broken is = refl

-- a broken session is tied to every disk
pub broken_ties : (session : FlatSession) (disk : DiskState) → (flat_state session).is_broken ≡ true → FlatTied session disk
broken_ties session disk is = record { leaves = λ sound c left. absurd (cc (sym is ∙ sound)) }

-- ---- by its parts

abbrev pub session_of : List ℕ → Pairs → Stage → FlatSession
session_of bytes seen Resting = resting (map_among bytes seen)
session_of bytes seen (Open t) = within (map_among bytes seen) (map_among bytes t.committed) t.has_changed
session_of bytes seen Broken = broken

-- the stage once the transaction that stands changed something
abbrev pub changed : Stage → Stage
changed (Open t) = Open (record t { has_changed = true })
changed stage = stage

-- What a transaction holds: the committed pairs, which end where the bytes did when it began, and an empty piece to write with. Before it changed something both maps are the same, and from then on the text of the map seen is within the limit.
pub record IsOpen (bytes : List ℕ) (seen : Pairs) (t : Transaction) : Type 0 where
  pub committed : IsKept bytes t.committed
  pub before : t.end ≤ length bytes
  pub ends : All (EndsBy t.end) t.committed.entries.items
  pub gathered : t.piece ≡ []
  pub fits : t.has_changed ≡ true → seen.size ≤ FLAT_LIMIT
  pub same : t.has_changed ≡ false → map_among bytes seen ≡ map_among bytes t.committed

abbrev pub HoldsBy : List ℕ → Pairs → Stage → Type 0
HoldsBy bytes seen (Open t) = IsOpen bytes seen t
HoldsBy bytes seen stage = Unit {0}

pub record IsSession (bytes : List ℕ) (seen : Pairs) (stage : Stage) : Type 0 where
  pub kept : IsKept bytes seen
  pub stands : HoldsBy bytes seen stage
