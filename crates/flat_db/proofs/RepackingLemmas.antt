-- A session whose file is rewritten.
use Rattle.std.proofs.Common.{◌≡◌, ℕ, ◌<◌, ◌≤◌, false, List, Some, Ok, Err, length, refl, sym, ap, subst, ◌∙◌, arith}
use Rattle.base_bytes.specs.OrderedMap.{Map}
use Rattle.base_bytes.specs.declared.limits.TheConstants.{FLAT_LIMIT}
use Rattle.base_devices.specs.Causes.{HasCause}
use Rattle.base_devices.specs.CrashImages.{Image, DiskState, GoesOn, IsMoment, Reads}
use Rattle.base_devices.specs.Frames.{MayReplace, Replaces}
use Rattle.base_devices.specs.declared.disk.Failed.{Failed}
use Rattle.base_devices.proofs.Moments.{leaves_told}
use Rattle.db_core.specs.Sessions.{DbState, at_rest, over}
use Rattle.db_core.specs.declared.fault.DbFault.TheVariants.{Full, NoMemory, DiskFault}
use Rattle.db_repack.specs.Repacking.{Repacks, RepacksOnce, IsRepacked}
use Rattle.db_repack.proofs.RepackLemmas.{owes_full, owes_none, refuses, fails, repacks}
use Rattle.flat_db.specs.FlatText.{FlatTextOf, canonical_text}
use Rattle.flat_db.specs.Kept.{map_among}
use Rattle.flat_db.specs.Opening.{flat_opens}
use Rattle.flat_db.specs.Repacking.{FlatRepacked, flat_repack}
use Rattle.flat_db.specs.Sessions.{FlatSession, FlatTied, IsSession, broken, flat_kind, flat_state, outside_same, resting, session_of, within}
use Rattle.flat_db.specs.declared.pairs.Pairs.{Pairs}
use Rattle.flat_db.specs.declared.session.Stage.{Stage}
use Rattle.flat_db.proofs.Canonical.{canonical_reads_back}
use Rattle.flat_db.proofs.SessionLemmas.{seen_is}
use Rattle.flat_db.proofs.TextLaws.{text_is_one_map}

-- outside a transaction a session that is not broken is at rest
is_at_rest : (s : FlatSession) → (flat_state s).is_broken ≡ false → (flat_state s).in_transaction ≡ false → flat_state s ≡ at_rest (flat_state s).committed 0
is_at_rest (resting m) sound closed = refl
is_at_rest (within seen committed has_changed) sound closed = absurd (cc closed)
is_at_rest broken sound closed = absurd (cc sound)

-- a text that opens to a map is rewritten as the map's
rewritten : (file : List ℕ) (m n : Map) → flat_opens (Some file) m → n ≡ m → FlatRepacked file (canonical_text n)
rewritten file m n opens same = let is : opens.bytes ≡ file = cc opens.there in (m, subst (λ (b : List ℕ). FlatTextOf b m) is opens.so, ap canonical_text same)

-- and one text alone takes its place
pub flat_repacks_once : RepacksOnce flat_repack
flat_repacks_once file a b one other = one.2 ∙ ap canonical_text (text_is_one_map file one.0 other.0 one.1 other.1) ∙ sym other.2

module _ (bytes : List ℕ) (seen : Pairs) (stage : Stage) (s : FlatSession) (view : session_of bytes seen stage ≡ s) (session : IsSession bytes seen stage) (d : DiskState) (moment : IsMoment d)
    (sound : (flat_state s).is_broken ≡ false) (closed : (flat_state s).in_transaction ≡ false) (tie : FlatTied s d) where
  abbrev made : List ℕ
  made = canonical_text (flat_state s).seen

  map_is : map_among bytes seen ≡ (flat_state s).seen
  map_is = seen_is bytes seen stage s view sound

  one_map : (flat_state s).seen ≡ (flat_state s).committed
  one_map = sym (ap (λ (u : DbState). u.seen) (outside_same s sound closed))

  size_is : seen.size ≡ length made
  size_is = session.kept.counted ∙ ap (λ (m : Map). length (canonical_text m)) map_is

  is : (flat_state s).is_broken ≡ false → IsRepacked flat_repack made (over d (flat_state s))
  is _ file reads = rewritten file (flat_state s).committed (flat_state s).seen (tie.leaves sound (Some file) (moment.reads_left (Some file) reads)) one_map

  pub full : {T : Type 0} → FLAT_LIMIT < seen.size → Repacks {T = T} flat_repack made (over d (flat_state s)) (over d (flat_state s)) (Err (Full seen.size))
  full over_limit = refuses flat_repack made d (flat_state s) is tie.leaves (Full seen.size) moment (owes_full flat_kind (flat_state s) (length made) seen.size sound (omega (arith, over_limit, size_is)) size_is) (λ never. never)

  pub without_memory : {T : Type 0} → Repacks {T = T} flat_repack made (over d (flat_state s)) (over d (flat_state s)) (Err NoMemory)
  without_memory = refuses flat_repack made d (flat_state s) is tie.leaves NoMemory moment sound (λ never. never)

  module _ (slice : List ℕ) (same : slice ≡ bytes) (fits : seen.size ≤ FLAT_LIMIT) (e : DiskState) where
    text_is : canonical_text (map_among slice seen) ≡ made
    text_is = ap (λ (b : List ℕ). canonical_text (map_among b seen)) same ∙ ap canonical_text map_is

    opens : (i : Image) → i ≡ Some (canonical_text (map_among slice seen)) → flat_opens i (flat_state s).committed
    opens i text = subst (flat_opens i) (map_is ∙ one_map) (record {
      bytes = canonical_text (map_among bytes seen);
      there = text ∙ ap (λ (b : List ℕ). Some (canonical_text (map_among b seen))) same;
      within = omega (arith, session.kept.counted, fits);
      so = canonical_reads_back (map_among bytes seen) session.kept.sound;
    })

    pub done : {T : Type 0} (x y : T) → Replaces {E = Failed} (canonical_text (map_among slice seen)) d e (Ok x) → MayReplace (canonical_text (map_among slice seen)) d e → HasCause {E = Failed} d.faults e.faults (Ok x)
        → Repacks flat_repack made (over d (flat_state s)) (over e (flat_state s)) (Ok y)
    done {T = T} x y replaces any cause =
        repacks flat_repack made d (flat_state s) is tie.leaves e (flat_state s) (subst (λ (b : List ℕ). MayReplace b d e) text_is any) (opens (Some made) (ap Some (sym text_is))) x y
        (subst (λ (b : List ℕ). Replaces {T = T} {E = Failed} b d e (Ok x)) text_is replaces) cause (owes_none flat_kind (flat_state s) (length made) sound (omega (arith, fits, size_is))) (is_at_rest s sound closed)

    pub failed : {T U : Type 0} (x : Failed) → MayReplace (canonical_text (map_among slice seen)) d e → HasCause {T = T} {E = Failed} d.faults e.faults (Err x) → Repacks {T = U} flat_repack made (over d (flat_state s)) (over e (flat_state broken)) (Err DiskFault)
    failed {T = T} x any cause =
        fails flat_repack made d (flat_state s) is tie.leaves e (flat_state broken) (subst (λ (b : List ℕ). MayReplace b d e) text_is any) (opens (Some made) (ap Some (sym text_is))) {T = T} x cause
        (owes_none flat_kind (flat_state s) (length made) sound (omega (arith, fits, size_is))) refl refl

    pub tied_done : {T : Type 0} (x : T) → GoesOn d e → IsMoment e → Replaces {E = Failed} (canonical_text (map_among slice seen)) d e (Ok x) → FlatTied s e
    tied_done x time later replaces = record { leaves = λ _ c left. opens c (leaves_told d e (Some (canonical_text (map_among slice seen))) time later replaces.durable replaces.reads c left) }
