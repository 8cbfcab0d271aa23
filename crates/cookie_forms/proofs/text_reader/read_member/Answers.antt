use Rattle.serde_json.specs.Data.{string}
use Rattle.cookie_forms.specs.Borrowed.{borrowed_domain}
use Rattle.cookie_forms.specs.ToJson.{domain_tree, expiry_tree, path_tree}
use Rattle.cookie_forms.proofs.ReadMembers.{domain_found, expires_found, path_found, raw_cookie_found}
use Rattle.cookie_forms.proofs.ReadTokens.{expires_view}
use Rattle.cookie_forms.proofs.text_reader.read_member.Goals as goal

pub returns-in_ok-read_string-in-raw_cookie : goal.returns-in_ok-read_string-in-raw_cookie
returns-in_ok-read_string-in-raw_cookie c =
    let read = c.in_ok-read_string-in-raw_cookie in
    λ depth some. (string read.field-0.now, read.ensures depth, λ ms at. raw_cookie_found ms c.args.found.now at c.args.name.now read.field-0 c.in-raw_cookie.is)

pub returns-in_ok-read_path-in-path : goal.returns-in_ok-read_path-in-path
returns-in_ok-read_path-in-path c =
    let read = c.in_ok-read_path-in-path in
    λ depth some. (path_tree read.field-0.0.now read.field-0.1, read.ensures depth some, λ ms at. path_found ms c.args.found.now at c.args.name.now read.field-0 c.in-path.is)

pub returns-in_ok-read_domain-in-domain : goal.returns-in_ok-read_domain-in-domain
returns-in_ok-read_domain-in-domain c =
    let read = c.in_ok-read_domain-in-domain in
    λ depth some. (domain_tree (borrowed_domain read.field-0), read.ensures depth some, λ ms at. domain_found ms c.args.found.now at c.args.name.now read.field-0 c.in-domain.is)

pub returns-in_ok-read_expiry-in-expires : goal.returns-in_ok-read_expiry-in-expires
returns-in_ok-read_expiry-in-expires c =
    let read = c.in_ok-read_expiry-in-expires in
    λ depth some. (expiry_tree (expires_view read.field-0), read.ensures depth some, λ ms at. expires_found ms c.args.found.now at c.args.name.now read.field-0 c.in-expires.is)
