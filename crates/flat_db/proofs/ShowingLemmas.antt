-- A text that is shown as it stands.
use Rattle.std.proofs.Common.{◌≡◌, ◌≢◌, ℕ, ◌≤◌, List, [], ◌∷◌, ◌++◌, Ok, length, drop, refl, sym, ◌∙◌, ap, subst, append_assoc}
use Rattle.std.proofs.lemmas.List.{append-nil, drop_all}
use Rattle.std.proofs.lemmas.List.Elements.{All-push}
use Rattle.base_bytes.specs.Escapes.{escaped}
use Rattle.base_bytes.specs.OrderedMap.{Map, IsBelow, IsOrderedMap, IsDbMap}
use Rattle.base_bytes.proofs.OrderedMaps.{EndsBelow, empty_db_map}
use Rattle.base_devices.specs.CrashImages.{DiskState, IsDurable}
use Rattle.db_core.specs.Opening.{OpensAs}
use Rattle.db_core.specs.Sessions.{DbState}
use Rattle.flat_db.specs.FlatText.{FlatTextOf, pair_line, canonical_text}
use Rattle.flat_db.specs.Entries.{part_of, pair_of}
use Rattle.flat_db.specs.Opening.{flat_opens}
use Rattle.flat_db.specs.Sessions.{FlatSession, FlatTied, flat_kind, flat_state}
use Rattle.flat_db.specs.Showing.{bare_line, bare_text, IsBare, ShowsAs, ShownTied}
use Rattle.flat_db.specs.declared.pairs.Entry.{Entry}
use Rattle.flat_db.specs.declared.showing.Shown.{Shown}
use Rattle.flat_db.specs.declared.showing.Shown.TheVariants.{Text, Session}
use Rattle.flat_db.proofs.Canonical.{canonical_reads_back, ends_push}
use Rattle.flat_db.proofs.Sizes.{text_then}

-- The lines in front of an offset: their keys rise up to the last one, and they are pairs as they are.
pub record Said (text : List ℕ) (at : ℕ) (last : List ℕ) : Type 0 where
  pub map : Map
  pub sound : IsDbMap map
  pub below : (key : List ℕ) → IsBelow last key → EndsBelow map key
  pub written : text ≡ canonical_text map ++ drop at text
  pub bare : canonical_text map ≡ bare_text map

pub said_none : (text last : List ℕ) → Said text 0 last
said_none text last = record { map = []; sound = empty_db_map; below = λ key after. tt; written = refl; bare = refl }

bare_then : (m n : Map) → bare_text (m ++ n) ≡ bare_text m ++ bare_text n
bare_then [] n = refl
bare_then (p ∷ m) n = ap (λ (l : List ℕ). bare_line p ++ l) (bare_then m n) ∙ sym (append_assoc (bare_line p) (bare_text m) (bare_text n))

bare_pair : (key value : List ℕ) → escaped key ≡ key → escaped value ≡ value → pair_line key value ≡ bare_line (key, value)
unfolding pair_line
bare_pair key value key_stands value_stands =
    ap (λ (l : List ℕ). l ++ (9 ∷ (escaped value ++ (10 ∷ [])))) key_stands ∙ ap (λ (l : List ℕ). key ++ (9 ∷ (l ++ (10 ∷ [])))) value_stands

-- a pair behind all others
ordered_push : (m : Map) (p : List ℕ × List ℕ) → IsOrderedMap m → EndsBelow m p.0 → IsOrderedMap (m ++ (p ∷ []))
ordered_push [] p ordered ends = (tt, tt)
ordered_push (q ∷ []) p ordered ends = (ends.0, (tt, tt))
ordered_push (q ∷ r ∷ m) p ordered ends = (ordered.0, ordered_push (r ∷ m) p ordered.1 ends.1)

-- one line more
pub said_more : (text last : List ℕ) (at next : ℕ) (entry : Entry) → Said text at last → IsBelow last (part_of text entry.key) → part_of text entry.key ≢ []
    → drop at text ≡ pair_line (part_of text entry.key) (part_of text entry.value) ++ drop next text → escaped (part_of text entry.key) ≡ part_of text entry.key → escaped (part_of text entry.value) ≡ part_of text entry.value
    → Said text next (part_of text entry.key)
said_more text last at next entry said below some is key_stands value_stands =
    let m = said.map in
    let p = pair_of text entry in
    let line = pair_line p.0 p.1 in
    let ends = said.below p.0 below in
    let whole : canonical_text (m ++ (p ∷ [])) ≡ canonical_text m ++ line = text_then m (p ∷ []) ∙ ap (λ (l : List ℕ). canonical_text m ++ l) (append-nil line) in
    let bare_whole : bare_text (m ++ (p ∷ [])) ≡ bare_text m ++ bare_line p = bare_then m (p ∷ []) ∙ ap (λ (l : List ℕ). bare_text m ++ l) (append-nil (bare_line p)) in
    record {
      map = m ++ (p ∷ []);
      sound = record { ordered = ordered_push m p said.sound.ordered ends; some = All-push (λ (q : List ℕ × List ℕ). q.0 ≢ []) m p said.sound.some some };
      below = λ key after. ends_push m p key ends after;
      written = said.written ∙ ap (λ (l : List ℕ). canonical_text m ++ l) is ∙ sym (append_assoc (canonical_text m) line (drop next text)) ∙ ap (λ (l : List ℕ). l ++ drop next text) (sym whole);
      bare = whole ∙ ap (λ (l : List ℕ). l ++ line) said.bare ∙ ap (λ (l : List ℕ). bare_text m ++ l) (bare_pair p.0 p.1 key_stands value_stands) ∙ sym bare_whole;
    }

-- all lines
pub said_all : (text last : List ℕ) (at : ℕ) → length text ≤ at → Said text at last → IsBare text
said_all text last at end said =
    let whole = canonical_text said.map in
    let is : text ≡ whole = said.written ∙ ap (λ (l : List ℕ). whole ++ l) (drop_all at text end) ∙ append-nil whole in
    record { map = said.map; sound = said.sound; reads = subst (λ (l : List ℕ). FlatTextOf l said.map) (sym is) (canonical_reads_back said.map said.sound); bare = is ∙ said.bare }

-- ---- the file

-- what was read is what the file read before
pub shows_from : (old new : DiskState) (shown : Shown) → new.reads ≡ old.reads → ShowsAs new shown → ShowsAs old shown
shows_from old new (Text text) reads shows = record { map = shows.map; sound = shows.sound; opens = λ main is. shows.opens main (reads ∙ is); bare = shows.bare }
shows_from old new (Session db) reads shows = record { rests = shows.rests; opened = λ main is. shows.opened main (reads ∙ is); refused = tt }

tie_of : (old new : DiskState) (db : FlatSession) → OpensAs {B = FlatSession} flat_kind flat_state old (Ok db) → IsDurable new → new.reads ≡ old.reads → FlatTied db new
tie_of old new db opens durable reads = record {
  leaves = λ sound c left.
      let to = opens.opened c (sym reads ∙ durable.only c left) in
      subst (λ (m : Map). flat_opens c m) (sym (ap (λ (s : DbState). s.committed) to.rests)) to.opens;
}

-- a session over what is on the disk is tied to it
pub shown_ties : (old new : DiskState) (shown : Shown) → ShowsAs old shown → IsDurable new → new.reads ≡ old.reads → ShownTied new shown
shown_ties old new (Text text) shows durable reads = tt
shown_ties old new (Session db) shows durable reads = tie_of old new db shows durable reads
