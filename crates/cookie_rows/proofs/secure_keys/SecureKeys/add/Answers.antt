use Rattle.std.proofs.Common.{◌∙◌, ap, ◌||◌}
use Rattle.cookie_laws.specs.Rows.{key_of, same_key}
use Rattle.cookie_rows.specs.GroupChanges.{texts_of}
use Rattle.cookie_rows.specs.SecureKeys.{lists_key}
use Rattle.cookie_rows.proofs.NamedScopes.{added_key}
use Rattle.cookie_rows.proofs.Results.{on_ok_map}
use Rattle.cookie_rows.proofs.secure_keys.SecureKeys.add.Goals as goal

pub returns-clause-added : goal.returns-clause-added
returns-clause-added c =
    let cookie = c.args.cookie.now in
    on_ok_map c.add_to.result
    (λ is key. ap (λ keys. lists_key keys key) is ∙ added_key cookie (texts_of c.self.inside.names.entries) key
    ∙ ap (λ keys. same_key (key_of cookie) key || lists_key keys key) c.self.view_is)
    c.add_to.ensures.added
