-- A whole script comes to its stated end.
use Rattle.std.proofs.Common.{◌≡◌, ◌∙◌, ◌⊎◌, inl, inr, ⊎_elim, ℕ, ◌+◌, ◌-◌, ◌≤◌, false, List, [], ◌++◌, Option, Some, length, refl, sym, ap, subst, append_assoc, arith, length-append}
use Rattle.std.proofs.lemmas.List.{append-nil}
use Rattle.base_devices.specs.CrashImages.{Image, GoesOn, IsMoment}
use Rattle.base_devices.proofs.Moments.{each_then}
use Rattle.base_devices.specs.HostCalls.{HostMoment, told_with}
use Rattle.base_notes.specs.declared.note.Note.{Note}
use Rattle.db_core.specs.Sessions.{DbKind, DbState, aborted, at_rest}
use Rattle.base_bytes.specs.OrderedMap.{Map}
use Rattle.base_bytes.specs.Transactions.{after_first}
use Rattle.base_notes.specs.declared.note.Note.TheVariants.{Memory}
use Rattle.db_tool.specs.Doing.{DoesTask, DrawsWords, IsStated, StandsAfter}
use Rattle.db_tool.specs.Printing.{Printed, PrintsSome, PrintMoment}
use Rattle.db_tool.specs.Tasks.{KeepsPrefix, words_after}
use Rattle.db_tool.specs.ToolNotes.{IsFault, IsCutOff}
use Rattle.db_tool.proofs.PrintLemmas.{printed_then, printed_none}
use Rattle.rand_core.specs.Stream.{Stream}
use Rattle.db_script.specs.Course.{ScriptMoment, script_over, to_read, DrawsFew, IsLeft, NextDone, NextEnds, EndsStated, Leads, EndsAsStated, KeepsPrefixes}
use Rattle.db_script.specs.Lines.{lines_of}
use Rattle.db_script.specs.Moments.{KeepsFew}
use Rattle.db_script.specs.Reading.{ScriptState, to_come}
use Rattle.db_script.specs.Scripts.{Progress, Ending, ending_of, joined, nothing_done, script_task, task_of_ending}
use Rattle.db_script.specs.Steps.{LineMoment, JoinsOutput, EndsWhole}
use Rattle.db_script.proofs.CourseLemmas.{joins_most}
use Rattle.db_script.proofs.AcknowledgeLemmas.{joined_parts}
use Rattle.db_script.proofs.StandLemmas.{stands_start}
use Rattle.db_script.proofs.WayLemmas.{Grows, acknowledged_so_far, first_of, grows, grows_to, keeps_few}
use Rattle.db_script.proofs.MomentLemmas.{counts_none, counts_then}
use Rattle.db_tool.proofs.TaskLemmas.{rests_of}

-- ---- output

joins_more : (m n o : PrintMoment) (x y : List ℕ) → JoinsOutput x m n → JoinsOutput y n o → JoinsOutput (x ++ y) m o
joins_more m n o x y first second = record {
  some = record {
    printed = first.some.printed ++ second.some.printed;
    unprinted = second.some.unprinted;
    whole = append_assoc first.some.printed second.some.printed second.some.unprinted ∙ ap (λ (l : List ℕ). first.some.printed ++ l) second.some.whole
        ∙ ap (λ (l : List ℕ). first.some.printed ++ (l ++ y)) first.rest ∙ sym (append_assoc first.some.printed first.some.unprinted y)
        ∙ ap (λ (l : List ℕ). l ++ y) first.some.whole ∙ append_assoc m.held x y;
    grew = printed_then m.host n.host o.host first.some.printed second.some.printed first.some.grew second.some.grew;
  };
  rest = second.rest;
}

-- of what is gathered and more a prefix is printed, and more may have come
some_more : (m n : PrintMoment) (o : HostMoment) (x y z all : List ℕ) → m.held ≡ [] → JoinsOutput x m n → PrintsSome (n.held ++ y) n.host o → all ≡ (x ++ y) ++ z → PrintsSome all m.host o
some_more m n o x y z all none first second is = record {
  printed = first.some.printed ++ second.printed;
  unprinted = second.unprinted ++ z;
  whole = sym (append_assoc (first.some.printed ++ second.printed) second.unprinted z)
      ∙ ap (λ (l : List ℕ). l ++ z) (append_assoc first.some.printed second.printed second.unprinted ∙ ap (λ (l : List ℕ). first.some.printed ++ l) second.whole
      ∙ ap (λ (l : List ℕ). first.some.printed ++ (l ++ y)) first.rest ∙ sym (append_assoc first.some.printed first.some.unprinted y)
      ∙ ap (λ (l : List ℕ). l ++ y) (first.some.whole ∙ ap (λ (l : List ℕ). l ++ x) none))
      ∙ sym is;
  grew = printed_then m.host n.host o first.some.printed second.printed first.some.grew second.grew;
}

all_more : (m n : PrintMoment) (o : HostMoment) (x : List ℕ) → m.held ≡ [] → JoinsOutput x m n → Printed n.held n.host o → Printed x m.host o
all_more m n o x none first second =
    subst (λ (l : List ℕ). Printed l m.host o) (ap (λ (l : List ℕ). first.some.printed ++ l) first.rest ∙ first.some.whole ∙ ap (λ (l : List ℕ). l ++ x) none)
    (printed_then m.host n.host o first.some.printed n.held first.some.grew second)

-- ---- the course

-- an image that is left opens to what was committed on the way, and no more is printed than its replies
pub keeps_left : (kind : DbKind) (e : Ending) (words : Stream) (start : LineMoment) (m : ScriptMoment) (so : Leads kind e words start m) (MayBe : Progress → Type 0) (most : ℕ) (c : Image) (n : ℕ) → start.output.held ≡ []
    → length so.done.transactions ≤ most → ((q : Progress) → MayBe q → length q.transactions ≤ most)
    → IsLeft kind so.done (ending_of kind so.done (lines_of (to_come m.reads.script so.left))) MayBe m.line.output c n
    → KeepsFew kind (task_of_ending e) start.session most (n - start.output.host.disk.mark) c
keeps_left kind e words start m so MayBe most c n none here there left =
    keeps_few kind start.session e left.reached left.rest most (n - start.output.host.disk.mark) c (left.leads ∙ so.leads) (left.stands start.session so.stands) left.opens printed
    (⊎_elim (λ (is : left.reached ≡ so.done). omega (arith, ap (λ (q : Progress). length q.transactions) is, here)) (there left.reached) left.which)
  where
    printed : n - start.output.host.disk.mark ≤ length (joined left.reached.replies)
    printed = omega (
      arith,
      left.within,
      length-append m.line.output.held left.reply,
      ap length left.replies,
      length-append (joined so.done.replies) left.reply,
      joins_most (joined so.done.replies) start.output m.line.output so.output,
      length-append start.output.held (joined so.done.replies),
      ap length none,
    )

pub leads_start : (kind : DbKind) (words : Stream) (left : List ℕ) (shown : Option (List ℕ)) (script : ScriptState) (start : LineMoment)
    → script ≡ record { held = []; lines = 0; size = 0; is_over = false } → shown ≡ Some left → start.session.seen ≡ start.session.committed → IsMoment start.output.host.disk
    → ((c : Image) → start.output.host.disk.leaves c → kind.opens c start.session.committed)
    → Leads kind (ending_of kind (nothing_done start.session words) (lines_of left)) words start (script_over (to_read script shown words) start)
unfolding joined
leads_start kind words left shown script start new is same moment opens = record {
  left = left;
  shown = is;
  done = nothing_done start.session words;
  leads = ap (λ (t : ScriptState). ending_of kind (nothing_done start.session words) (lines_of (to_come t left))) new;
  at = record { lines = sym (ap (λ (t : ScriptState). t.lines) new); size = sym (ap (λ (t : ScriptState). t.size) new); session = refl; words = refl };
  drawn = refl;
  output = record {
    some = record { printed = []; unprinted = start.output.held; whole = sym (append-nil start.output.held); grew = printed_none start.output.host };
    rest = refl;
  };
  stands = stands_start start.session words same;
  later = omega arith;
  moments = record {
    each = λ c n left_now.
        let now = moment.now c n left_now in (
          omega (arith, now.1),
          omega (arith, now.1),
          keeps_few kind start.session _ (nothing_done start.session words) (lines_of left) 0 (n - start.output.host.disk.mark) c refl (stands_start start.session words same) (opens c now.0)
              (omega (arith, now.1)) (omega arith),
        );
  };
  idle = λ _ _. counts_none start.output.host.disk;
}

pub leads_more : (kind : DbKind) (e : Ending) (words : Stream) (start : LineMoment) (m n : ScriptMoment) (so : Leads kind e words start m) → start.output.held ≡ []
    → GoesOn start.output.host.disk m.line.output.host.disk → GoesOn m.line.output.host.disk n.line.output.host.disk
    → NextDone kind so.done (ending_of kind so.done (lines_of (to_come m.reads.script so.left))) m n → Leads kind e words start n
leads_more kind e words start m n so none sm mn more = record {
  left = more.left;
  shown = more.shown;
  done = more.next;
  leads = more.leads ∙ so.leads;
  at = more.at;
  drawn = more.words words so.drawn;
  output = subst (λ (l : List ℕ). JoinsOutput l start.output n.line.output) (sym more.replies)
      (joins_more start.output m.line.output n.line.output (joined so.done.replies) more.reply so.output more.output);
  stands = more.stands start.session so.stands;
  later = omega (arith, so.later, more.moments.later);
  moments = each_then start.output.host.disk m.line.output.host.disk n.line.output.host.disk _ sm mn
      (record {
        each = λ c k left.
            let q = so.moments.each c k left in
            (q.0, omega (arith, q.1, more.moments.later), record { prefix = q.2.prefix; few = omega (arith, q.2.few, more.more) });
      })
      (record {
        each = λ c k left.
            let q = more.moments.each.each c k left in (
              omega (arith, q.0, so.later),
              q.1,
              keeps_left kind e words start m so (λ q. q ≡ more.next) (length more.next.transactions) c k none more.more (λ q is. omega (arith, ap (λ (p : Progress). length p.transactions) is)) q.2,
            );
      });
  idle = λ whole none. counts_then start.output.host.disk m.line.output.host.disk n.line.output.host.disk (so.idle whole (omega (arith, more.more, none))) (more.idle whole none);
}

-- at each moment of the script
pub leaves_to_end : (kind : DbKind) (e : Ending) (words : Stream) (start : LineMoment) (m n : ScriptMoment) (note : Note) (so : Leads kind e words start m) → start.output.held ≡ []
    → GoesOn start.output.host.disk m.line.output.host.disk → GoesOn m.line.output.host.disk n.line.output.host.disk
    → NextEnds kind so.done (ending_of kind so.done (lines_of (to_come m.reads.script so.left))) m n note
    → KeepsPrefixes kind (task_of_ending e) (record { session = start.session; host = start.output.host }) (record { session = n.line.session; host = n.line.output.host })
leaves_to_end kind e words start m n note so none sm mn end = each_then start.output.host.disk m.line.output.host.disk n.line.output.host.disk _ sm mn
    (record { each = λ c k left. let q = so.moments.each c k left in (q.0, omega (arith, q.1, end.moments.later), q.2.prefix) })
    (record {
      each = λ c k left.
          let q = end.moments.each.each c k left in
          (omega (arith, q.0, so.later), q.1, any q.2);
    })
  where
    any : {c : Image} {k : ℕ} → IsLeft kind so.done (ending_of kind so.done (lines_of (to_come m.reads.script so.left))) (λ _. IsFault note) m.line.output c k
        → KeepsPrefix kind (task_of_ending e) start.session.committed (k - start.output.host.disk.mark) c
    any {c} {k} left = (keeps_left kind e words start m so (λ q. q ≡ left.reached) (length so.done.transactions + length left.reached.transactions) c k none (omega arith)
        (λ q is. omega (arith, ap (λ (p : Progress). length p.transactions) is))
        (record { reached = left.reached; rest = left.rest; leads = left.leads; which = inr refl; stands = left.stands; opens = left.opens; reply = left.reply; replies = left.replies; within = left.within })).prefix

pub leads_to_end : (kind : DbKind) (words : Stream) (script : List ℕ) (start : LineMoment) (m n : ScriptMoment) (note : Note) (so : Leads kind (ending_of kind (nothing_done start.session words) (lines_of script)) words start m)
    → start.output.held ≡ [] → NextEnds kind so.done (ending_of kind so.done (lines_of (to_come m.reads.script so.left))) m n note
    → EndsAsStated (script_task kind start.session words script) (record { session = start.session; host = start.output.host }) (record { session = n.line.session; host = n.line.output.host }) note
leads_to_end kind words script start m n note so none end = record {
  stated = ⊎_elim inl met end.stated;
  prints = some_more start.output m.line.output n.line.output.host (joined so.done.replies) end.reply (joined on.more) _ none so.output end.prints
      (ap (λ (f : Ending). joined f.done.replies) (sym (end.leads ∙ so.leads)) ∙ ap joined on.replies ∙ joined_parts end.reached.replies on.more ∙ ap (λ (l : List ℕ). l ++ joined on.more) end.replies);
}
  where
    on : Grows end.reached (ending_of kind end.reached end.rest)
    on = grows kind end.reached end.rest

    met : EndsStated so.done (ending_of kind so.done (lines_of (to_come m.reads.script so.left))) m n note
        → IsCutOff note ⊎ IsStated (script_task kind start.session words script) (record { session = start.session; host = start.output.host }) (record { session = n.line.session; host = n.line.output.host }) note
    met is =
        let done : (ending_of kind (nothing_done start.session words) (lines_of script)).done ≡ so.done = ap (λ (f : Ending). f.done) (sym so.leads) ∙ is.done in
        inr (record {
          ends = is.ends ∙ ap (λ (f : Ending). f.note) so.leads;
          told = (all_more start.output m.line.output n.line.output.host (joined so.done.replies) none so.output is.whole.printed).told
              ∙ ap (λ (p : Progress). told_with start.output.host.streams.told (joined p.replies)) (sym done);
          session = is.whole.session ∙ ap (λ (t : DbState). aborted t) (sym so.at.session) ∙ ap (λ (p : Progress). aborted p.session) (sym done);
        })

-- how many transactions stand where no device failed
module _ (kind : DbKind) (words : Stream) (script : List ℕ) (start : LineMoment) (m n : ScriptMoment) (note : Note) (so : Leads kind (ending_of kind (nothing_done start.session words) (lines_of script)) words start m)
    (none : start.output.held ≡ []) (end : NextEnds kind so.done (ending_of kind so.done (lines_of (to_come m.reads.script so.left))) m n note) (calm : IsFault note → ⊥) where
  abbrev e : Ending
  e = ending_of kind (nothing_done start.session words) (lines_of script)

  abbrev count : ℕ
  count = length so.done.transactions

  abbrev printed : ℕ
  printed = n.line.output.host.disk.mark - start.output.host.disk.mark

  whole : EndsWhole m.line n.line
  whole = end.whole calm

  on : Grows so.done e
  on = grows_to kind so.done (lines_of (to_come m.reads.script so.left)) e so.leads

  few : printed ≤ length (joined so.done.replies)
  few = omega (arith, whole.printed.most, joins_most (joined so.done.replies) start.output m.line.output so.output, length-append start.output.held (joined so.done.replies), ap length none)

  all : (note ≡ Memory → ⊥) → IsCutOff note ⊎ EndsStated so.done (ending_of kind so.done (lines_of (to_come m.reads.script so.left))) m n note → count ≡ length e.done.transactions
  all no_memory (inl (inl failed)) = absurd (calm failed)
  all no_memory (inl (inr memory)) = absurd (no_memory memory)
  all no_memory (inr is) = ap (λ (p : Progress). length p.transactions) (sym is.done) ∙ ap (λ (f : Ending). length f.done.transactions) so.leads

  -- the session is the one of the lines so far, given up
  given_up : n.line.session ≡ aborted so.done.session
  given_up = whole.session ∙ ap (λ (t : DbState). aborted t) (sym so.at.session)

  rested : m.line.session.is_broken ≡ false → n.line.session ≡ at_rest (after_first count start.session.committed e.done.transactions) n.line.session.load
  rested sound = rests_of n.line.session (ap (λ (t : DbState). t.is_broken) whole.session ∙ sound) (ap (λ (t : DbState). aborted t) given_up ∙ sym given_up)
      ∙ ap (λ (c : Map). at_rest c n.line.session.load) (ap (λ (t : DbState). t.committed) given_up ∙ first_of start.session so.done e so.stands on)

  pub stands_to_end : aborted start.session ≡ start.session → m.line.session.is_broken ≡ false → GoesOn start.output.host.disk m.line.output.host.disk → GoesOn m.line.output.host.disk n.line.output.host.disk
      → StandsAfter kind (script_task kind start.session words script) (record { session = start.session; host = start.output.host }) (record { session = n.line.session; host = n.line.output.host }) note
  stands_to_end rest sound sm mn = record {
    count = count;
    within = omega (arith, ap length on.transactions, length-append so.done.transactions on.later);
    rests = rested sound;
    whole = λ no_memory. all no_memory end.stated;
    memory = λ _. acknowledged_so_far start.session so.done e printed so.stands on few;
    no_more = each_then start.output.host.disk m.line.output.host.disk n.line.output.host.disk _ sm mn
        (record { each = λ c k left. let q = (so.moments.each c k left).2 in record { count = q.prefix.count; within = q.few; holds = q.prefix.holds } })
        (record {
          each = λ c k left.
              let q = keeps_left kind e words start m so (λ _. IsFault note) count c k none (omega arith) (λ _ failed. absurd (calm failed)) (end.moments.each.each c k left).2 in
              record { count = q.prefix.count; within = q.few; holds = q.prefix.holds };
        });
    same = λ zero_count. given_up ∙ so.stands.same zero_count ∙ rest;
    idle = λ zero_count in_place. counts_then start.output.host.disk m.line.output.host.disk n.line.output.host.disk (so.idle in_place zero_count) (end.idle in_place calm);
  }

pub words_to_end : (kind : DbKind) (words : Stream) (script : List ℕ) (start : LineMoment) (m n : ScriptMoment) (note : Note) (so : Leads kind (ending_of kind (nothing_done start.session words) (lines_of script)) words start m)
    → NextEnds kind so.done (ending_of kind so.done (lines_of (to_come m.reads.script so.left))) m n note → DrawsWords (script_task kind start.session words script) words n.reads.words note
words_to_end kind words script start m n note so end = ⊎_elim cut whole end.stated
  where
    few : DrawsFew (ending_of kind so.done (lines_of (to_come m.reads.script so.left))).drawn words n.reads.words
    few = end.draws words so.drawn

    cut : IsCutOff note → DrawsWords (script_task kind start.session words script) words n.reads.words note
    cut is = record { count = few.count; drawn = few.drawn; within = omega (arith, few.within, ap (λ (f : Ending). f.drawn) so.leads); whole = inl is }

    whole : EndsStated so.done (ending_of kind so.done (lines_of (to_come m.reads.script so.left))) m n note → DrawsWords (script_task kind start.session words script) words n.reads.words note
    whole is = record { count = _; drawn = is.words words so.drawn ∙ ap (λ (f : Ending). words_after f.drawn words) so.leads; within = omega arith; whole = inr refl }

-- nothing was done, as memory ran out
pub nothing_stated : (kind : DbKind) (s : DbState) (words : Stream) (script : List ℕ) (h : HostMoment) (note : Note) → IsCutOff note
    → EndsAsStated (script_task kind s words script) (record { session = s; host = h }) (record { session = s; host = h }) note
nothing_stated kind s words script h note cut = record { stated = inl cut; prints = record { printed = []; unprinted = _; whole = refl; grew = printed_none h } }

pub nothing_leaves : (kind : DbKind) (s : DbState) (words : Stream) (script : List ℕ) (h : HostMoment) → s.seen ≡ s.committed → IsMoment h.disk
    → ((c : Image) → h.disk.leaves c → kind.opens c s.committed) → KeepsPrefixes kind (script_task kind s words script) (record { session = s; host = h }) (record { session = s; host = h })
unfolding joined
nothing_leaves kind s words script h same moment opens = record {
  each = λ c n left_now.
      let now = moment.now c n left_now in (
        omega (arith, now.1),
        omega (arith, now.1),
        (keeps_few kind s _ (nothing_done s words) (lines_of script) 0 (n - h.disk.mark) c refl (stands_start s words same) (opens c now.0) (omega (arith, now.1)) (omega arith)).prefix,
      );
}

pub nothing_stands : (kind : DbKind) (s : DbState) (words : Stream) (script : List ℕ) (h : HostMoment) → s.is_broken ≡ false → aborted s ≡ s → IsMoment h.disk
    → ((c : Image) → h.disk.leaves c → kind.opens c s.committed) → StandsAfter kind (script_task kind s words script) (record { session = s; host = h }) (record { session = s; host = h }) Memory
unfolding joined
nothing_stands kind s words script h sound rest moment opens = record {
  count = 0;
  within = omega arith;
  rests = rests_of s sound rest;
  whole = λ no_memory. absurd (no_memory refl);
  memory = λ _. acknowledged_so_far s (nothing_done s words) _ (h.disk.mark - h.disk.mark) (stands_start s words (ap (λ (t : DbState). t.seen) (sym rest))) (grows kind (nothing_done s words) (lines_of script)) (omega arith);
  no_more = record { each = λ c n left. record { count = 0; within = omega arith; holds = opens c (moment.now c n left).0 } };
  same = λ _. refl;
  idle = λ _ _. counts_none h.disk;
}

pub nothing_drawn : (kind : DbKind) (s : DbState) (words : Stream) (script : List ℕ) (note : Note) → IsCutOff note → DrawsWords (script_task kind s words script) words words note
nothing_drawn kind s words script note cut = record { count = 0; drawn = refl; within = omega arith; whole = inl cut }

pub nothing_done_of_task : (kind : DbKind) (s : DbState) (words : Stream) (script : List ℕ) (h : HostMoment) → s.is_broken ≡ false → aborted s ≡ s → IsMoment h.disk
    → ((c : Image) → h.disk.leaves c → kind.opens c s.committed) → DoesTask kind (script_task kind s words script) (record { session = s; host = h }) (record { session = s; host = h }) Memory
nothing_done_of_task kind s words script h sound rest moment opens = record {
  each = nothing_leaves kind s words script h (ap (λ (t : DbState). t.seen) (sym rest)) moment opens;
  stated = inl (inr refl);
  prints = (nothing_stated kind s words script h Memory (inr refl)).prints;
  stands = λ _. nothing_stands kind s words script h sound rest moment opens;
  only_prints = λ is. absurd (cc is);
  in_place = λ _. refl;
  faults = record { rose = λ is. absurd (cc is); stood = λ _. refl };
  device = λ device is. absurd (cc is);
}
