use Rattle.std.proofs.Common.{◌≡◌, Some, ap, option_map, subst}
use Rattle.sqlite_value.specs.declared.value.Value.TheVariants.{Text}
use Rattle.cookie_raw.specs.Raw.{Raw}
use Rattle.cookie_parts.specs.Cookie.{Row}
use Rattle.cookie_parts.specs.Domain.{DomainValue, domain_text}
use Rattle.cookie_parts.specs.Expiry.{Expiry}
use Rattle.cookie_parts.specs.Path.{PathValue}
use Rattle.cookie_table.specs.Columns.{attribute_value, expiry_value, or_null}
use Rattle.cookie_table.specs.FromColumns.{attribute_in, expiry_in, if_any, text_in}
use Rattle.cookie_table.specs.WholeSeconds.{attribute_in_seconds, expiry_in_seconds}
use Rattle.cookie_table.proofs.ReadBack.{cookie_back}
use Rattle.cookie_table.proofs.writing.write_row.Goals as goal

pub returns-clause-back : goal.returns-clause-back
returns-clause-back c =
    let pair = c.in_ok-push_pair.ensures in
    let attributes = c.in_ok-push_attributes.ensures in
    cookie_back c.args.id c.args.cookie.now
    (subst (λ (d : DomainValue). text_in (Text (domain_text d)) ≡ Some (domain_text d)) (ap (λ (v : Row). v.domain) c.cookie.view_is) c.push_domain.ensures.back)
    (subst (λ (p : PathValue). text_in (Text p.text) ≡ Some p.text) (ap (λ (v : Row). v.path) c.cookie.view_is) c.push_path.ensures.back)
    (subst (λ (r : Raw). text_in (Text r.name) ≡ Some r.name) c.raw.ensures pair.name)
    (subst (λ (r : Raw). text_in (Text r.value) ≡ Some r.value) c.raw.ensures pair.value)
    (subst (λ (e : Expiry). expiry_in (expiry_value e) ≡ Some (expiry_in_seconds e)) (ap (λ (v : Row). v.expires) c.cookie.view_is) c.push_expiry.ensures.back)
    (subst (λ (r : Raw). if_any text_in (or_null Text r.domain) ≡ Some r.domain) c.raw-2.ensures attributes.domain)
    (subst (λ (r : Raw). if_any text_in (or_null Text r.path) ≡ Some r.path) c.raw-2.ensures attributes.path)
    (subst (λ (r : Raw). if_any attribute_in (or_null attribute_value r.expires) ≡ Some (option_map attribute_in_seconds r.expires)) c.raw-2.ensures attributes.expires)
