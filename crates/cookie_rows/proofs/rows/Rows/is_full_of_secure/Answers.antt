use Rattle.std.proofs.Common.{ap, ◌∙◌}
use Rattle.std.specs.Prelude.{nat_le, None, Some}
use Rattle.cookie_words.specs.Moments.{moment_of}
use Rattle.cookie_parts.specs.Cookie.{Row}
use Rattle.cookie_parts.specs.Domain.{domain_text}
use Rattle.cookie_laws.specs.Contents.{contents_of}
use Rattle.cookie_laws.specs.Rows.{RowsInOrder, key_of}
use Rattle.cookie_laws.specs.SecureLast.{is_full_of_secure}
use Rattle.cookie_rows.specs.Eviction.{count_secure, paths_of}
use Rattle.cookie_rows.specs.Stored.{domains_in}
use Rattle.cookie_rows.proofs.SecureRows.{secure_counted}
use Rattle.cookie_rows.proofs.rows.Rows.is_full_of_secure.Goals as goal

pub returns-in-Some : goal.returns-in-Some
returns-in-Some c =
    let gs = domains_in c.self.inside.groups in
    let now = moment_of c.args.now in
    let key = key_of c.args.cookie.now in
    let limit = c.in-Some.limit in
    rw c.in-Some.is
    (c.is_full.ensures
    ∙ ap (λ d. nat_le limit (count_secure now (paths_of d gs))) (c.as_str.ensures ∙ ap (λ (r : Row). domain_text r.domain) c.cookie.view_is)
    ∙ ap (nat_le limit) (secure_counted c.self.inside.created gs c.self.invariant.0 now key)
    ∙ ap (λ (k : RowsInOrder). is_full_of_secure (contents_of k None (Some limit)) now key) c.self.view_is)
