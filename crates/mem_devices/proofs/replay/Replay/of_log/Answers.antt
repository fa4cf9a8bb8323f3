use Rattle.std.proofs.Common.{◌∙◌, arith, rules}
use Rattle.mem_devices.specs.History.{given_image, first_moment}
use Rattle.mem_devices.proofs.ToPlay.{first_size, first_within, play_on}
use Rattle.mem_devices.proofs.replay.Replay.of_log.Goals as goal

pub loop-event-init : goal.loop-event-init
loop-event-init c = record {
  room = c.in_ok-replay.ensures.room ∙ c.room.ensures;
  plays = record {
    now = first_moment (given_image c.args.start);
    shows = record { reads = c.in_ok-replay.ensures.main; left = c.in_ok-replay.ensures.left; new_bytes = c.in_ok-replay.ensures.new_bytes; ahead = search rules };
    leads = search rules;
    sizes = search rules;
    within = search rules;
    fits = search rules;
  };
}

pub split_at-requires : goal.split_at-requires
split_at-requires c = omega (arith, first_size _ _ _ _ _ _ _ c.loop-event.invariant.plays c.in-Some.ensures.cases.0, c.size.ensures)

pub play-requires-clause-within : goal.play-requires-clause-within
play-requires-clause-within c = first_within _ _ _ _ _ _ _ c.loop-event.invariant.plays c.in-Some.ensures.cases.0

pub play-requires-clause-room : goal.play-requires-clause-room
play-requires-clause-room c = omega (arith, c.loop-event.invariant.plays.fits, first_size _ _ _ _ _ _ _ c.loop-event.invariant.plays c.in-Some.ensures.cases.0, c.size.ensures, c.split_at.ensures.front_len)

pub loop-event-preserved : goal.loop-event-preserved
loop-event-preserved c = record {
  room = c.in_ok-play.ensures.room ∙ c.loop-event.invariant.room;
  plays = play_on _ _ _ _ _ _ _ c.loop-event.invariant.plays c.in-Some.ensures.cases.0 _ _ _ (search rules) (search rules) c.in_ok-play.ensures.shows c.in_ok-play.ensures.new_bytes c.in_ok-play.ensures.room;
}
