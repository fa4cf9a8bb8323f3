-- A replay in the midst of its record.
use Rattle.std.proofs.Common.{◌≡◌, ℕ, ◌+◌, ◌-◌, ◌≤◌, Bool, true, false, List, ◌∷◌, ◌++◌, length, take, drop, vec_len, refl, sym, ◌∙◌, ap, subst, arith, length-take, length-drop}
use Rattle.std.specs.Prelude.{◌&&◌}
use Rattle.std.specs.List.{list_all}
use Rattle.std.proofs.lemmas.List.{take-append-drop}
use Rattle.mem_devices.specs.History.{Moment, Step, size_of, total_size, is_within, step_of, steps_of, moment_step, moment_after}
use Rattle.mem_devices.specs.Replay.{ShowsMoment}
use Rattle.mem_devices.specs.declared.replay.Replay.{Replay}
use Rattle.mem_devices.specs.declared.call_log.Event.{Event}
use Rattle.mem_devices.proofs.StepLemmas.{step_front}

-- it stands at some moment, from which these events, with these bytes for their own, lead to the last one
pub record ToPlay (landed : List Bool) (last : Moment) (r : Replay) (events : List Event) (bytes : List ℕ) : Type 0 where
  pub now : Moment
  pub shows : ShowsMoment landed r now
  pub leads : moment_after now (steps_of events bytes) ≡ last
  pub sizes : total_size events ≡ length bytes
  pub within : list_all (is_within r.room) events ≡ true
  pub fits : vec_len r.new_bytes + length bytes ≤ r.room

first_of : (a b : Bool) → a && b ≡ true → a ≡ true
first_of true b both = refl
first_of false b both = absurd (cc (both))

others_of : (a b : Bool) → a && b ≡ true → b ≡ true
others_of true b both = both
others_of false b both = absurd (cc (both))

module _ (landed : List Bool) (last : Moment) (r : Replay) (events : List Event) (bytes : List ℕ) (e : Event) (later : List Event) (p : ToPlay landed last r events bytes) (is : events ≡ e ∷ later) where
  first_sizes : size_of e + total_size later ≡ length bytes
  first_sizes = sym (ap total_size is) ∙ p.sizes

  pub first_size : size_of e ≤ length bytes
  first_size = omega (arith, first_sizes)

  pub first_within : is_within r.room e ≡ true
  first_within = first_of (is_within r.room e) (list_all (is_within r.room) later) (sym (ap (list_all (is_within r.room)) is) ∙ p.within)

  pub play_on : (next : Replay) (own rest : List ℕ) → own ≡ take (size_of e) bytes → rest ≡ drop (size_of e) bytes → ((m : Moment) → ShowsMoment landed r m → ShowsMoment landed next (moment_step m (step_of e own)))
      → vec_len next.new_bytes ≤ vec_len r.new_bytes + length own → next.room ≡ r.room → ToPlay landed last next later rest
  play_on next own rest front back played more room = record {
    now = moment_step p.now (step_of e own);
    shows = played p.now p.shows;
    leads = same_end ∙ ap (λ (es : List Event). moment_after p.now (steps_of es bytes)) (sym is) ∙ p.leads;
    sizes = omega (arith, first_sizes, size_back);
    within = subst (λ (n : ℕ). list_all (is_within n) later ≡ true) (sym room) (others_of (is_within r.room e) (list_all (is_within r.room) later) (sym (ap (list_all (is_within r.room)) is) ∙ p.within));
    fits = omega (arith, p.fits, more, room, size_front, size_back, first_sizes);
  }
    where
      size_front : length own ≡ size_of e
      size_front = ap length front ∙ omega (arith, length-take (size_of e) bytes, first_sizes)

      size_back : length rest ≡ length bytes - size_of e
      size_back = ap length back ∙ length-drop (size_of e) bytes

      whole : own ++ rest ≡ bytes
      whole = ap (λ (l : List ℕ). l ++ rest) front ∙ ap (λ (l : List ℕ). take (size_of e) bytes ++ l) back ∙ take-append-drop (size_of e) bytes

      same_step : step_of e own ≡ step_of e bytes
      same_step = sym (step_front e own rest (omega (arith, size_front))) ∙ ap (step_of e) whole

      same_end : moment_after (moment_step p.now (step_of e own)) (steps_of later rest) ≡ moment_after p.now (steps_of (e ∷ later) bytes)
      same_end =
          ap (λ (s : Step). moment_after (moment_step p.now s) (steps_of later rest)) same_step
          ∙ ap (λ (l : List ℕ). moment_after (moment_step p.now (step_of e bytes)) (steps_of later l)) back
