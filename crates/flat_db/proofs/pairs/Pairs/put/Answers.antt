use Rattle.std.proofs.Common.{◌≡◌, ◌∙◌, ℕ, List, length, set, refl, sym, ap, subst, arith}
use Rattle.std.specs.List.{All, insert}
use Rattle.base_bytes.specs.OrderedMap.{Map, put}
use Rattle.flat_db.specs.FlatText.{canonical_text}
use Rattle.flat_db.specs.Entries.{EndsBy, pairs_of}
use Rattle.flat_db.specs.Kept.{IsKept, map_among}
use Rattle.flat_db.specs.Places.{HasKeyAt, LacksKeyAt}
use Rattle.flat_db.specs.declared.pairs.Pairs.{Pairs}
use Rattle.flat_db.proofs.KeptLemmas.{grown_map, grown_kept, same_kept}
use Rattle.flat_db.proofs.PairLemmas.{put_over_own, put_in_between, ends_set, ends_insert, put_kept}
use Rattle.flat_db.proofs.pairs.Pairs.put.Goals as goal
use Rattle.flat_db.proofs.pairs.Pairs.put.Goals.{in-Ok, in-Err+in-Ok-insert}

pub returns-in_err-entry-clause-kept : goal.returns-in_err-entry-clause-kept
returns-in_err-entry-clause-kept c = grown_kept c.args.bytes.now.items c.append.new.bytes.items c.append.ensures.grown.0 c.args.self.now c.append.ensures.grown.1 c.append.ensures.short c.requires.kept

pub place_of-requires : goal.place_of-requires
place_of-requires c =
    subst (λ (l : List ℕ). IsKept l c.args.self.now) (sym c.deref.ensures.value)
    (grown_kept c.args.bytes.now.items c.append.new.bytes.items c.append.ensures.grown.0 c.args.self.now c.append.ensures.grown.1 c.append.ensures.short c.requires.kept)

pub returns-in_default-clause-kept : goal.returns-in_default-clause-kept
returns-in_default-clause-kept c =
    same_kept c.append.new.bytes.items c.args.self.now _ (record { items = c.in_default.ensures.items; size = refl })
    (grown_kept c.args.bytes.now.items c.append.new.bytes.items c.append.ensures.grown.0 c.args.self.now c.append.ensures.grown.1 c.append.ensures.short c.requires.kept)

-- where the pairs stand after the new one is put
put_among : (c : goal.After-self-2-1) → All (EndsBy (length c.append.new.bytes.items)) c.match-place_of.self.entries.items × (pairs_of c.append.new.bytes.items c.match-place_of.self.entries.items ≡ put (map_among c.append.new.bytes.items c.args.self.now) c.args.key.now c.args.value.now)
put_among c =
    let new = c.append.new.bytes.items in
    let entries = c.args.self.now.entries.items in
    let ends : All (EndsBy (length new)) entries = (grown_kept c.args.bytes.now.items new c.append.ensures.grown.0 c.args.self.now c.append.ensures.grown.1 c.append.ensures.short c.requires.kept).ends in
    elim c.match-place_of.branch [
      | in-Ok w ↦
          let is : c.match-place_of.self.entries.items ≡ set entries w.in-Ok.place c.in_ok-entry.entry = ap (λ (p : Pairs). p.entries.items) w.self-is in
          let has = subst (λ (l : List ℕ). HasKeyAt c.args.key.now (pairs_of l entries) w.in-Ok.place) c.deref.ensures.value w.in-Ok.ensures.own in (
            subst (All (EndsBy (length new))) (sym is) (ends_set (length new) entries w.in-Ok.place c.in_ok-entry.entry c.in_ok-entry.ensures.ends ends),
            ap (pairs_of new) is ∙ put_over_own new c.args.key.now c.args.value.now entries w.in-Ok.place c.in_ok-entry.entry c.in_ok-entry.ensures.pair w.in-Ok.ensures.there has,
          )
      | in-Err+in-Ok-insert w ↦
          let is : c.match-place_of.self.entries.items ≡ insert entries w.in-Err.place c.in_ok-entry.entry = ap (λ (p : Pairs). p.entries.items) w.self-is ∙ w.in-Ok-insert.ensures.items in
          let lacks = subst (λ (l : List ℕ). LacksKeyAt c.args.key.now (pairs_of l entries) w.in-Err.place) c.deref.ensures.value w.in-Err.ensures.between in (
            subst (All (EndsBy (length new))) (sym is) (ends_insert (length new) entries w.in-Err.place c.in_ok-entry.entry c.in_ok-entry.ensures.ends ends),
            ap (pairs_of new) is ∙ put_in_between new c.args.key.now c.args.value.now entries w.in-Err.place c.in_ok-entry.entry c.in_ok-entry.ensures.pair lacks,
          )
    ]

-- the map of before, among the bytes of now
map_before : (c : goal.After-self-2-1) → map_among c.append.new.bytes.items c.args.self.now ≡ map_among c.args.bytes.now.items c.args.self.now
map_before c = grown_map c.args.bytes.now.items c.append.new.bytes.items c.append.ensures.grown.0 c.args.self.now c.append.ensures.grown.1 c.requires.kept

pub returns-clause-kept : goal.returns-clause-kept
returns-clause-kept c =
    let new = c.append.new.bytes.items in
    let key = c.args.key.now in
    let value = c.args.value.now in
    let among = put_among c in
    put_kept new key value c.args.self.now _ (grown_kept c.args.bytes.now.items new c.append.ensures.grown.0 c.args.self.now c.append.ensures.grown.1 c.append.ensures.short c.requires.kept) (λ is. omega (arith, c.requires.some, ap length is)) among.0 among.1
    (c.requires.size ∙ ap (λ (m : Map). length (canonical_text (put m key value))) (sym (map_before c))) c.requires.fits

pub returns-clause-done : goal.returns-clause-done
returns-clause-done c = (put_among c).1 ∙ ap (λ (m : Map). put m c.args.key.now c.args.value.now) (map_before c)
