-- Output is printed part by part.
use Rattle.std.proofs.Common.{◌≡◌, ℕ, ◌+◌, ◌-◌, ◌≤◌, List, [], ◌++◌, Option, None, Some, Result, Ok, Err, length, take, drop, refl, sym, ◌∙◌, ap, subst, append_assoc, arith, length-append}
use Rattle.std.proofs.lemmas.List.{append-nil, take-append-drop, length-take-le}
use Rattle.std.specs.Prelude.{IsSome, OnOk}
use Rattle.base_devices.specs.Causes.{HasCause}
use Rattle.base_devices.specs.CrashImages.{DiskState, GoesOn, IsMoment}
use Rattle.base_devices.specs.Frames.{KeepsFiles}
use Rattle.base_devices.specs.HostCalls.{HostState, HostMoment, moment, MovesMark, told_with}
use Rattle.base_devices.proofs.FrameLemmas.{only_none, only_then, only_once}
use Rattle.db_tool.specs.Printing.{Printed, PrintsSome, PrintMoment, holding, Prints, PrintsAll}

-- ---- what is printed in two parts

pub told_none : (o : Option (List ℕ)) → o ≡ told_with o []
told_none None = refl
told_none (Some l) = ap Some (sym (append-nil l))

told_twice : (o : Option (List ℕ)) (a b : List ℕ) → told_with (told_with o a) b ≡ told_with o (a ++ b)
told_twice None a b = refl
told_twice (Some l) a b = ap Some (append_assoc l a b)

some_with : (o p : Option (List ℕ)) (a : List ℕ) → p ≡ told_with o a → IsSome o → IsSome p
some_with None p a is some = absurd (cc some)
some_with (Some l) p a is some = subst IsSome (sym is) refl

pub printed_none : (m : HostMoment) → Printed [] m m
printed_none m = record { told = told_none m.streams.told; warned = refl; later = omega arith; most = omega arith; marked = λ _. omega arith }

pub printed_then : (m n o : HostMoment) (a b : List ℕ) → Printed a m n → Printed b n o → Printed (a ++ b) m o
printed_then m n o a b first second = record {
  told = second.told ∙ ap (λ (l : Option (List ℕ)). told_with l b) first.told ∙ told_twice m.streams.told a b;
  warned = second.warned ∙ first.warned;
  later = omega (arith, first.later, second.later);
  most = omega (arith, first.most, second.most, length-append a b);
  marked = λ some. omega (arith, first.marked some, second.marked (some_with m.streams.told n.streams.told a first.told some), length-append a b);
}

-- a call of the disk prints nothing
pub printed_still : (m n : HostMoment) → n.streams ≡ m.streams → n.disk.mark ≡ m.disk.mark → Printed [] m n
printed_still m n same mark = record {
  told = ap (λ (s : HostState). s.told) same ∙ told_none m.streams.told;
  warned = ap (λ (s : HostState). s.warned) same;
  later = omega (arith, mark);
  most = omega (arith, mark);
  marked = λ _. omega (arith, mark);
}

pub some_none : (m n : HostMoment) (output : List ℕ) → Printed [] m n → PrintsSome output m n
some_none m n output nothing = record { printed = []; unprinted = output; whole = refl; grew = nothing }

-- ---- what is printed and what is held

pub prints_none : {T E : Type 0} (held : List ℕ) (s : DiskState) (o : HostState) (x : T) → IsMoment s → Prints {E = E} [] (holding held s o) (holding held s o) (Ok x)
prints_none held s o x is = record {
  some = record { printed = []; unprinted = held; whole = sym (append-nil held); grew = printed_none (moment s o) };
  rest = refl;
  disk = only_none s is;
  cause = record { later = omega arith; failed = tt; kept = refl };
}

-- two parts, one behind the other
pub prints_then : {T E U F : Type 0} (m n o : PrintMoment) (x y : List ℕ) (v : T) (r : Result U F) → GoesOn m.host.disk n.host.disk → GoesOn n.host.disk o.host.disk
    → Prints {E = E} x m n (Ok v) → Prints y n o r → Prints (x ++ y) m o r
prints_then m n o x y v r st tu first second = record {
  some = record {
    printed = first.some.printed ++ second.some.printed;
    unprinted = second.some.unprinted;
    whole = append_assoc first.some.printed second.some.printed second.some.unprinted ∙ ap (λ (l : List ℕ). first.some.printed ++ l) second.some.whole
        ∙ ap (λ (l : List ℕ). first.some.printed ++ (l ++ y)) first.rest ∙ sym (append_assoc first.some.printed first.some.unprinted y)
        ∙ ap (λ (l : List ℕ). l ++ y) first.some.whole ∙ append_assoc m.held x y;
    grew = printed_then m.host n.host o.host first.some.printed second.some.printed first.some.grew second.some.grew;
  };
  rest = second.rest;
  disk = only_then m.host.disk n.host.disk o.host.disk st tu first.disk second.disk;
  cause = subst (λ (count : ℕ). HasCause count o.host.disk.faults r) first.cause.kept second.cause;
}

-- bytes that are held behind the others
pub prints_held : {T E : Type 0} (m n : PrintMoment) (held x y : List ℕ) (v : T) → held ≡ n.held ++ y → Prints {E = E} x m n (Ok v)
    → Prints {E = E} (x ++ y) m (record { held = held; host = n.host }) (Ok v)
prints_held m n held x y v is first = record {
  some = record {
    printed = first.some.printed;
    unprinted = first.some.unprinted ++ y;
    whole = sym (append_assoc first.some.printed first.some.unprinted y) ∙ ap (λ (l : List ℕ). l ++ y) first.some.whole ∙ append_assoc m.held x y;
    grew = first.some.grew;
  };
  rest = is ∙ ap (λ (l : List ℕ). l ++ y) first.rest;
  disk = first.disk;
  cause = first.cause;
}

-- nothing of what comes behind a failure is printed
pub prints_ended : {T E : Type 0} (m n : PrintMoment) (x y : List ℕ) (fault : E) → Prints {T = T} x m n (Err fault) → Prints {T = T} (x ++ y) m n (Err fault)
prints_ended m n x y fault first = record {
  some = record {
    printed = first.some.printed;
    unprinted = first.some.unprinted ++ y;
    whole = sym (append_assoc first.some.printed first.some.unprinted y) ∙ ap (λ (l : List ℕ). l ++ y) first.some.whole ∙ append_assoc m.held x y;
    grew = first.some.grew;
  };
  rest = tt;
  disk = first.disk;
  cause = first.cause;
}

-- a print that was done
pub prints_done : {T E : Type 0} (held slice : List ℕ) (s t : DiskState) (o p : HostState) (x : T) → slice ≡ held → p.told ≡ told_with o.told slice → p.warned ≡ o.warned
    → MovesMark {E = E} o.told s t slice (Ok x) → KeepsFiles s t → HasCause {E = E} s.faults t.faults (Ok x) → Prints {E = E} [] (holding held s o) (holding [] t p) (Ok x)
prints_done held slice s t o p x same told warned moves keeps cause = record {
  some = record {
    printed = held;
    unprinted = [];
    whole = refl;
    grew = record {
      told = told ∙ ap (told_with o.told) same;
      warned = warned;
      later = moves.from;
      most = omega (arith, moves.to, ap length same);
      marked = λ some. moves.whole some ∙ ap (λ (l : List ℕ). s.mark + length l) same;
    };
  };
  rest = refl;
  disk = only_once o.told s t slice (Ok x) moves keeps;
  cause = cause;
}

-- a print that failed
pub prints_failed : {T E : Type 0} (held slice : List ℕ) (s t : DiskState) (o p : HostState) (fault : E) → slice ≡ held → p.told ≡ told_with o.told (take (t.mark - s.mark) slice) → p.warned ≡ o.warned
    → MovesMark {T = T} o.told s t slice (Err fault) → KeepsFiles s t → HasCause {T = T} s.faults t.faults (Err fault) → Prints {T = T} [] (holding held s o) (holding held t p) (Err fault)
prints_failed {T = T} held slice s t o p fault same told warned moves keeps cause =
    let k = t.mark - s.mark in
    let few : k ≤ length held = omega (arith, moves.from, moves.to, ap length same) in
    record {
      some = record {
        printed = take k held;
        unprinted = drop k held;
        whole = take-append-drop k held ∙ sym (append-nil held);
        grew = record {
          told = told ∙ ap (λ (l : List ℕ). told_with o.told (take k l)) same;
          warned = warned;
          later = moves.from;
          most = omega (arith, moves.from, length-take-le k held few);
          marked = λ some. omega (arith, moves.from, length-take-le k held few);
        };
      };
      rest = tt;
      disk = only_once {T = T} o.told s t slice (Err fault) moves keeps;
      cause = cause;
    }

-- ---- output in full

pub all_printed : {T E : Type 0} (m n : PrintMoment) (bytes output : List ℕ) (r : Result T E) → m.held ≡ [] → bytes ≡ output → OnOk r (n.held ≡ []) → Prints bytes m n r → PrintsAll output m.host n.host r
all_printed m n bytes output (Err fault) none is empty prints = record {
  some = record { printed = prints.some.printed; unprinted = prints.some.unprinted; whole = prints.some.whole ∙ ap (λ (l : List ℕ). l ++ bytes) none ∙ is; grew = prints.some.grew };
  all = tt;
  disk = prints.disk;
  cause = prints.cause;
}
all_printed m n bytes output (Ok x) none is empty prints =
    let whole = prints.some.whole ∙ ap (λ (l : List ℕ). l ++ bytes) none ∙ is in
    let all : prints.some.printed ≡ output = sym (append-nil prints.some.printed) ∙ ap (λ (l : List ℕ). prints.some.printed ++ l) (sym (sym prints.rest ∙ empty)) ∙ whole in
    record {
      some = record { printed = prints.some.printed; unprinted = prints.some.unprinted; whole = whole; grew = prints.some.grew };
      all = subst (λ (l : List ℕ). Printed l m.host n.host) all prints.some.grew;
      disk = prints.disk;
      cause = prints.cause;
    }
