-- Time goes on from call to call.
use Rattle.std.proofs.Common.{inl, inr, ⊎_elim, ℕ, arith}
use Rattle.base_devices.specs.CrashImages.{Image, DiskState, GoesOn, IsMoment}

pub goes_same : (s : DiskState) → GoesOn s s
goes_same s = record {
  later = omega arith;
  keeps = λ t c n le left. left;
  adds = λ t c n le left. inl left;
  telling = (λ told. told, λ told. told);
  faults = omega arith;
  written = omega arith;
  publishes = omega arith;
}

pub goes_then : (a b c : DiskState) → IsMoment c → GoesOn a b → GoesOn b c → GoesOn a c
goes_then a b c moment ab bc = record {
  later = omega (arith, ab.later, bc.later);
  keeps = λ t i n le left. bc.keeps t i n (omega (arith, ab.later)) (ab.keeps t i n le left);
  adds = λ t i n le left. ⊎_elim
      (λ before. ⊎_elim (λ was. inl was) (λ since. inr (bc.keeps a.clock i n ab.later since)) (ab.adds t i n le before))
      (λ since. inr (from_later i n since))
      (bc.adds t i n (omega (arith, ab.later)) left);
  telling = (λ told. ab.telling.0 (bc.telling.0 told), λ told. bc.telling.1 (ab.telling.1 told));
  faults = omega (arith, ab.faults, bc.faults);
  written = omega (arith, ab.written, bc.written);
  publishes = omega (arith, ab.publishes, bc.publishes);
}
  where
    from_later : (i : Image) (n : ℕ) → c.left_since b.clock i n → c.left_since a.clock i n
    from_later i n since = moment.earlier a.clock b.clock i n ab.later bc.later since
