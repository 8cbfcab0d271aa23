use Rattle.std.proofs.Common.{ap, ◌∙◌}
use Rattle.std.specs.List.{prefix_len}
use Rattle.cookie_raw.specs.Rfc6265bis.{is_white_space}
use Rattle.cookie_raw.proofs.WhiteSpace.{cut_behind}
use Rattle.cookie_raw.proofs.syntax.trim_front.Goals as goal

pub range_from-requires : goal.range_from-requires
range_from-requires c h =
    cut_behind c.args.text.now c.utf8.text _
    (c.spaces_before.ensures ∙ ap (prefix_len is_white_space) c.as_bytes.ensures.value)
