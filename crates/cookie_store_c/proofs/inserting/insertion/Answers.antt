use Rattle.std.proofs.Common.{◌≡◌, Ok, inl, refl, rules, sym}
use Rattle.cookie_words.specs.Moments.{moment_of}
use Rattle.cookie_parts.specs.Views.{expiry_value}
use Rattle.cookie_store_c.specs.InsertedCookies.{cookie_and_time, cookie_with, expressible, host_page}
use Rattle.cookie_store_c.proofs.Insertions.{from_page}
use Rattle.cookie_store_c.proofs.inserting.insertion.Goals as goal

pub returns-in_err-page-clause-value : goal.returns-in_err-page-clause-value
returns-in_err-page-clause-value c =
    let a = c.args in
    let t = c.in_ok-domain in
    let cookie = cookie_with t.domain.now t.path.now t.name.now t.value.now a.row.now c.in_ok-same_site.same_site (expiry_value c.in_ok-expires.expires) in
    let now = moment_of c.in_ok-now.now in
    let read : cookie_and_time a.domain.now a.path.now a.name.now a.value.now a.row.now a.now ≡ Ok (cookie, now) = search rules in
    let made : expressible cookie ≡ Ok c.in_ok-cookie.cookie = search rules in
    search (
      rules,
      from_page a.domain.now a.path.now a.name.now a.value.now a.row.now a.now (cookie, now) c.in_ok-cookie.cookie
          (host_page c.in_ok-cookie.cookie) read made refl,
    )

pub returns-clause-value : goal.returns-clause-value
returns-clause-value c =
    let a = c.args in
    let t = c.in_ok-domain in
    let cookie = cookie_with t.domain.now t.path.now t.name.now t.value.now a.row.now c.in_ok-same_site.same_site (expiry_value c.in_ok-expires.expires) in
    let now = moment_of c.in_ok-now.now in
    let read : cookie_and_time a.domain.now a.path.now a.name.now a.value.now a.row.now a.now ≡ Ok (cookie, now) = search rules in
    let made : expressible cookie ≡ Ok c.in_ok-cookie.cookie = search rules in
    let page : host_page c.in_ok-cookie.cookie ≡ Ok c.in_ok-page.page = search rules in
    inl (sym (from_page a.domain.now a.path.now a.name.now a.value.now a.row.now a.now (cookie, now) c.in_ok-cookie.cookie (Ok c.in_ok-page.page)
    read made page))
