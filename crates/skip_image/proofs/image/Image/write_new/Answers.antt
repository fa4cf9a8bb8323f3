use Rattle.std.proofs.Common.{◌≡◌, ◌≤◌, ◌-◌, ◌++◌, ℕ, List, take, drop, Option, Some, None, sym, ◌∙◌, ap, subst, append_assoc, take-add, arith}
use Rattle.std.specs.Option.{option_map}
use Rattle.base_devices.specs.CrashImages.{Fresh}
use Rattle.base_devices.specs.DiskCalls.{fresh_bytes, appended}
use Rattle.base_devices.proofs.Moments.{stays_call, stays_then}
use Rattle.skip_image.specs.Image.{Adds}
use Rattle.skip_image.proofs.image.Image.write_new.Goals as goal

adds_then : (old middle new : Option Fresh) (one two : List ℕ) → Adds one old middle → new ≡ option_map (λ (f : Fresh). appended f two) middle → Adds (one ++ two) old new
adds_then None None new one two first is = ap fresh_bytes is
adds_then (Some f) None new one two first is = absurd cc
adds_then None (Some f) new one two first is = absurd cc
adds_then (Some f) (Some g) new one two first is =
    let bytes : g.bytes ≡ f.bytes ++ one = cc in
    ap fresh_bytes is ∙ ap (λ (b : List ℕ). let o : Option (List ℕ) = Some b in o) (ap (λ (b : List ℕ). b ++ two) bytes ∙ append_assoc f.bytes one two)

-- a piece more
piece_more : (b : List ℕ) (at end : ℕ) → at ≤ end → take at b ++ take (end - at) (drop at b) ≡ take end b
piece_more b at end le = sym (take-add at (end - at) b) ∙ ap (λ (n : ℕ). take n b) (omega arith)

pub loop-at-preserved : goal.loop-at-preserved
loop-at-preserved g c =
    let inv = c.loop-at.invariant in
    let on = g.met.D.Disk.rest_goes_on in
    record {
      within = omega (arith, c.min-end.ensures);
      added = subst (λ (l : List ℕ). Adds l (g.D.Disk.state c.args.disk.now).fresh (g.D.Disk.state c.new_write.new.self).fresh)
          (piece_more c.bytes-bytes.result.now c.loop-at.at c.min-end.result (omega (arith, c.min-end.ensures, c.loop-at-test.true)))
          (adds_then _ _ _ _ _ inv.added c.in_ok-new_write.ensures.written);
      stays = stays_then _ _ _ (on _ _ inv.rest) (on _ _ c.new_write.ensures.rest) inv.stays (stays_call _ _ c.new_write.ensures.call c.new_write.ensures.main);
      faults = c.in_ok-new_write.ensures.cause.kept ∙ inv.faults;
      rest = g.met.D.Disk.rest_then _ _ _ inv.rest c.new_write.ensures.rest;
    }
