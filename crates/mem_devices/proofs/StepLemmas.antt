-- One event more is one step more.
use Rattle.std.proofs.Common.{◌≡◌, ℕ, ◌+◌, ◌≤◌, ◌∷◌, [], ◌++◌, append-nil, List, length, take, drop, refl, sym, ◌∙◌, ap, arith, length-drop}
use Rattle.std.proofs.lemmas.List.{take-append-le, drop-append-le}
use Rattle.std.specs.Prelude.{Bool, true, false, ◌&&◌}
use Rattle.std.specs.List.{list_all}
use Rattle.mem_devices.specs.declared.call_log.Event.{Event}
use Rattle.mem_devices.specs.declared.call_log.Event.TheVariants.{Kept, Began, Appended, Wrote, WritePending, Cut, CutPending, Synced, Published, PublishPending, Printed}
use Rattle.mem_devices.specs.History.{Step, new_extended, main_written, write_pending, size_of, total_size, step_of, steps_of, is_within}

-- an event reads only its own bytes
pub step_front : (e : Event) (bytes more : List ℕ) → size_of e ≤ length bytes → step_of e (bytes ++ more) ≡ step_of e bytes
step_front Kept bytes more fits = refl
step_front Began bytes more fits = refl
step_front (Appended count) bytes more fits = ap new_extended (take-append-le count bytes more fits)
step_front (Wrote at count) bytes more fits = ap (main_written at) (take-append-le count bytes more fits)
step_front (WritePending at count made) bytes more fits = ap (λ (l : List ℕ). write_pending at (take made l)) (take-append-le count bytes more fits)
step_front (Cut to) bytes more fits = refl
step_front (CutPending to) bytes more fits = refl
step_front Synced bytes more fits = refl
step_front Published bytes more fits = refl
step_front PublishPending bytes more fits = refl
step_front (Printed count) bytes more fits = refl

pub steps-append : (events : List Event) (e : Event) (bytes more : List ℕ) → total_size events ≡ length bytes → size_of e ≡ length more → steps_of (events ++ e ∷ []) (bytes ++ more) ≡ steps_of events bytes ++ step_of e more ∷ []
steps-append [] e [] more same size = refl
steps-append [] e (b ∷ bytes) more same size = absurd (omega arith)
steps-append (f ∷ events) e bytes more same size =
    let left : total_size events ≡ length (drop (size_of f) bytes) = omega (arith, length-drop (size_of f) bytes) in
    let rest : drop (size_of f) (bytes ++ more) ≡ drop (size_of f) bytes ++ more = drop-append-le (size_of f) bytes more (omega arith) in
    ap (λ (s : Step). s ∷ steps_of (events ++ e ∷ []) (drop (size_of f) (bytes ++ more))) (step_front f bytes more (omega arith))
    ∙ ap (λ (l : List ℕ). step_of f bytes ∷ steps_of (events ++ e ∷ []) l) rest
    ∙ ap (λ (l : List Step). step_of f bytes ∷ l) (steps-append events e (drop (size_of f) bytes) more left size)

pub total_size-append : (events : List Event) (e : Event) → total_size (events ++ e ∷ []) ≡ total_size events + size_of e
total_size-append [] e = omega arith
total_size-append (f ∷ events) e = omega (arith, total_size-append events e)

-- an event without bytes
pub steps-bare : (events : List Event) (e : Event) (bytes : List ℕ) → total_size events ≡ length bytes → size_of e ≡ 0 → steps_of (events ++ e ∷ []) bytes ≡ steps_of events bytes ++ step_of e [] ∷ []
steps-bare events e bytes same bare = ap (λ (l : List ℕ). steps_of (events ++ e ∷ []) l) (sym (append-nil bytes)) ∙ steps-append events e bytes [] same bare

-- one event more that writes within the room
pub all_within : (room : ℕ) (events : List Event) (e : Event) → list_all (is_within room) events ≡ true → is_within room e ≡ true → list_all (is_within room) (events ++ e ∷ []) ≡ true
all_within room [] e all one = cc (one)
all_within room (f ∷ events) e all one = both (is_within room f) (list_all (is_within room) events) all (all_within room events e)
  where
    both : (a b : Bool) → a && b ≡ true → (b ≡ true → is_within room e ≡ true → list_all (is_within room) (events ++ e ∷ []) ≡ true) → a && list_all (is_within room) (events ++ e ∷ []) ≡ true
    both true b all more = more all one
    both false b all more = absurd (cc (all))
