-- Bytes over which a session stands.
use Rattle.std.proofs.Common.{◌≡◌, ℕ, Bool, true, false, cond, List, [], length, refl, sym, ap, subst, ◌∙◌}
use Rattle.skip_form.specs.declared.header.Header.{Header}
use Rattle.base_bytes.specs.OrderedMap.{IsDbMap}
use Rattle.skip_kind.proofs.KindLaws.{some_keys}
use Rattle.skip_seek.specs.Searches.{IsLive, map_of}
use Rattle.skip_spec.proofs.Meanings.{chain_rises}
use Rattle.skip_spec.specs.Chain.{Entry, pairs}
use Rattle.skip_spec.specs.Opens.{Contents, Reads, Tidy}
use Rattle.skip_spec.proofs.Lives.{bytes_live}
use Rattle.skip_spec.proofs.SameLog.{tidy_live}
use Rattle.skip_txn.specs.Sessions.{IsSound}

pub header_count : (h : Header) (says : Contents) → h ≡ says.header → says.header.num_records ≡ length says.chain → h.num_records ≡ length says.chain
header_count h says is count = ap (λ (x : Header). x.num_records) is ∙ count

-- the live records have the map of a database
pub live_sound : (bytes : List ℕ) → IsLive bytes → IsDbMap (map_of bytes)
live_sound bytes l =
    let rises = chain_rises bytes (length bytes) l.0 64 [] l.1 l.2.listed.log.chain in
    subst (λ (es : List Entry). IsDbMap (pairs es)) (sym (bytes_live bytes l.0 l.1 l.2)) (record { ordered = rises.1; some = some_keys (pairs l.1) rises.0 rises.1 })

-- those of a tidy file, at rest
pub tidy_sound : (bytes : List ℕ) (says : Contents) → Reads bytes says → Tidy bytes says → (count : ℕ) → count ≡ length says.chain → IsSound bytes count (length bytes) false
tidy_sound bytes says reads tidy count is =
    let live = tidy_live bytes says reads tidy in
    record {
      live = (says.starts, says.chain, live);
      header = (says.header, reads.fields, reads.header);
      sound = live_sound bytes (says.starts, says.chain, live);
      counted = is ∙ ap length (sym (bytes_live bytes says.starts says.chain live));
      unchanged = λ _. refl;
      changed = λ is. absurd (cc is);
    }

-- ---- a choice

pub chosen_true : (b : Bool) (x y : ℕ) → b ≡ true → cond b x y ≡ x
chosen_true true x y is = refl
chosen_true false x y is = absurd (cc is)

pub chosen_false : (b : Bool) (x y : ℕ) → b ≡ false → cond b x y ≡ y
chosen_false true x y is = absurd (cc is)
chosen_false false x y is = refl
