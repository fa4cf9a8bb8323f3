use Rattle.std.proofs.Common.{◌≡◌, ◌++◌, drop, map}
use Rattle.std.specs.Option.{option_map}
use Rattle.tool_words.specs.JobOf.{uids_of}
use Rattle.tool_words.proofs.folder.uids.Given as goal

abbrev pub invariant-loop-word : goal.invariant-loop-word
invariant-loop-word l = record {
  rest : uids_of (map (λ w. w.now) l.words)
      ≡ option_map (λ uids. l.uids.items ++ uids) (uids_of (map (λ w. w.now) (drop l.word-index l.words)));
}
