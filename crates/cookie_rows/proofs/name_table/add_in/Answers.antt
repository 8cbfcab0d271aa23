use Rattle.std.proofs.Common.{◌≡◌, ◌∙◌, ap, rules, subst, sym}
use Rattle.std.specs.Prelude.{string_bytes}
use Rattle.std.specs.Map.{values_of}
use Rattle.ordered_map.specs.Entries.{entries, in_order}
use Rattle.cookie_rows.specs.GroupChanges.{row_named}
use Rattle.cookie_rows.specs.Items.{AreNamed, rows_of}
use Rattle.cookie_rows.proofs.Named.{named_push, none_named}
use Rattle.cookie_rows.proofs.NamedItems.{put_push}
use Rattle.cookie_rows.proofs.Results.{ok_or_err, on_err_map, on_ok_map}
use Rattle.cookie_rows.proofs.name_table.add_in.Goals as goal

pub push-requires : goal.push-requires
push-requires c =
    let es = entries c.args.rows.now in
    let key : string_bytes c.in_ok-name.name ≡ c.args.row.row.raw.name = search rules in
    record { new = sym (none_named (string_bytes c.in_ok-name.name) es c.requires.named (ap (λ t. row_named t (rows_of (values_of es))) key ∙ c.requires.new)) }

pub returns-clause-added : goal.returns-clause-added
returns-clause-added c =
    on_ok_map c.push.result (λ is. ap values_of is ∙ put_push c.in_ok-name.name c.args.row (entries c.args.rows.now) c.requires.new) c.push.ensures.pushed

pub returns-clause-unchanged : goal.returns-clause-unchanged
returns-clause-unchanged c = on_err_map c.push.result (λ same. ap (λ es. values_of (in_order es)) same) c.push.ensures.unchanged

pub returns-clause-named : goal.returns-clause-named
returns-clause-named c =
    let key : string_bytes c.in_ok-name.name ≡ c.args.row.row.raw.name = search rules in
    ok_or_err c.push.result c.push.ensures.pushed c.push.ensures.unchanged
    (λ is. subst AreNamed (sym is) (named_push c.in_ok-name.name c.args.row (entries c.args.rows.now) key c.requires.named))
    (λ same. subst AreNamed (sym (ap in_order same)) c.requires.named)
