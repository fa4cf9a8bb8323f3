use Rattle.std.proofs.Common.{◌∙◌, string_bytes}
use Rattle.tool_words.proofs.ToolLemmas.{first_names_no_tool}
use Rattle.tool_words.proofs.words.job.Goals as goal

pub returns-in_default-as_str-clause-usage : goal.returns-in_default-as_str-clause-usage
returns-in_default-as_str-clause-usage c = λ _.
    let other = c.in_default-as_str in
    let name = c.as_str.ensures.value in
    first_names_no_tool string_bytes c.args.words.now c.in-Some.tool.now c.in-Some.ensures.value
    (λ same. other.not-cyr_dbtool (name ∙ same)) (λ same. other.not-cvt_cyrusdb (name ∙ same))
    (λ same. other.not-reconstruct (name ∙ same)) (λ same. other.not-unexpunge (name ∙ same))
    (λ same. other.not-ipurge (name ∙ same)) (λ same. other.not-chk_cyrus (name ∙ same))
