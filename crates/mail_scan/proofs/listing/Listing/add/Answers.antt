use Rattle.std.proofs.Common.{◌≡◌, nat_eq, codes, map, ap, sym, ◌∙◌}
use Rattle.std.specs.List.{starts_with}
use Rattle.std.proofs.lemmas.List.{map-append}
use Rattle.mail_scan.specs.Names.{name_of}
use Rattle.mail_scan.proofs.ListingLemmas.{passes_over, takes_message, takes_odd}
use Rattle.mail_scan.proofs.listing.Listing.add.Goals as goal
use Rattle.mail_scan.proofs.listing.Listing.add.Goals.{in-Some, in-None}

pub returns-then-starts_with-clause-added : goal.returns-then-starts_with-clause-added
returns-then-starts_with-clause-added c given is =
    let bytes : c.as_bytes.result.now ≡ c.args.name = c.as_bytes.ensures.value ∙ c.as_str.ensures.text in
    passes_over given c.args.name c.args.self.now is (sym (c.if-starts_with.ensures.value ∙ ap (λ t. starts_with nat_eq t (codes "cyrus.")) bytes))

pub returns-then-is_pushed-clause-added : goal.returns-then-is_pushed-clause-added
returns-then-is_pushed-clause-added c given is =
    let was = rw (← c.self.view_is) at is in
    let bytes : c.as_bytes.result.now ≡ c.args.name = c.as_bytes.ensures.value ∙ c.as_str.ensures.text in
    let own = sym (c.if-starts_with.ensures.value ∙ ap (λ t. starts_with nat_eq t (codes "cyrus.")) bytes) in
    let uid = rw c.as_str-2.ensures.text at c.uid_of_name.ensures in
    elim c.match-uid_of_name.branch [
      | in-Some w ↦
          let named = rw w.in-Some.is at uid in
          let pushed = rw (sym w.is_ok-is_pushed.ensures.value ∙ sym w.is_pushed-is ∙ c.if-is_pushed.true) at w.push.ensures.items in
          takes_message given c.args.name _ _ w.in-Some.uid was named (ap (λ n. n.messages) w.self-is ∙ ap (map name_of) pushed ∙ map-append name_of _ _) (ap (λ n. n.odd) w.self-is)
      | in-None w ↦
          let none = rw w.in-None.is at uid in
          let pushed = rw (sym w.is_ok-is_pushed-in-None.ensures.value ∙ sym w.is_pushed-is ∙ c.if-is_pushed.true) at w.push-in-None.ensures.items in
          takes_odd given c.args.name _ _ was none own (ap (λ n. n.messages) w.self-is) (ap (λ n. n.odd) w.self-is ∙ pushed)
    ]
