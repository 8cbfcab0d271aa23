use Rattle.std.proofs.Common.{◌∙◌, ap}
use Rattle.cookie_rows.specs.SecureKeys.{scopes_named}
use Rattle.cookie_rows.proofs.NamedScopes.{named_none, named_some}
use Rattle.cookie_rows.proofs.secure_keys.SecureKeys.named.Goals as goal

pub returns-in-Some : goal.returns-in-Some
returns-in-Some c =
    let es = c.self.inside.names.entries in
    c.as_slice.ensures ∙ named_some c.args.name.now es c.in-Some.named.now c.in-Some.ensures.value
    ∙ ap (scopes_named c.args.name.now) c.self.view_is

pub returns-in-None : goal.returns-in-None
returns-in-None c =
    named_none c.args.name.now c.self.inside.names.entries c.in-None.ensures.value ∙ ap (scopes_named c.args.name.now) c.self.view_is
