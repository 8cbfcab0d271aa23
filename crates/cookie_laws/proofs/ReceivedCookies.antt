-- What one insertion does with a cookie, or with the error from making it.
use Rattle.std.proofs.Common.{◌≡◌, true, false, Option, Some, Result, Ok, Err, ◌⊎◌, ⊎_elim, inl, inr, ◌∙◌, refl, sym, ap, arith}
use Rattle.url.specs.Parts.{Parts}
use Rattle.cookie_words.specs.Moments.{Moment}
use Rattle.cookie_psl.specs.Rules.{RuleList}
use Rattle.cookie_parts.specs.Cookie.{Row, expired_row, is_out_of_reach}
use Rattle.cookie_parts.specs.Domain.{HostOnly, domain_matches, domain_text}
use Rattle.cookie_parts.specs.Hosts.{host_of}
use Rattle.cookie_parts.specs.declared.cookie_error.CookieError.{CookieError}
use Rattle.cookie_parts.specs.declared.store_action.StoreAction.TheVariants.{ExpiredExisting}
use Rattle.cookie_laws.specs.Acceptance.{IsPut, admitted, is_listed, received, IsEvicted}
use Rattle.cookie_laws.specs.Contents.{Contents}
use Rattle.cookie_laws.specs.Rows.{Key, changed, has_key, is_unexpired, key_of, row_of, same_key}
use Rattle.cookie_laws.proofs.ConfinedRows.{IfOk_at, MayBeReceived, admitted-MayBeReceived, own_host}
use Rattle.cookie_laws.proofs.SingleInsertions.{accept-row_expired, accept-ends, accept-guarded, accept-live, accept-other_key, accept-other_row, accept-put, rejected-put}

-- an admitted host-only cookie is for its URL's host
admitted-host : (suffixes : Option RuleList) (url : Parts) (cookie inserted : Row) → admitted suffixes url cookie ≡ Ok inserted → inserted.domain ≡ HostOnly (domain_text inserted.domain)
    → host_of url ≡ Some (domain_text inserted.domain)
admitted-host suffixes url cookie inserted enters alone =
    let may = IfOk_at (MayBeReceived suffixes url) (admitted suffixes url cookie) inserted (admitted-MayBeReceived suffixes url cookie) enters in
    own_host (domain_text inserted.domain) url (sym (ap (λ domain. domain_matches domain url) alone) ∙ may.matches)

module _ (store : Contents) (url : Parts) (now : Moment) where
  -- a stored cookie is the row of its key, and a host-only cookie for the URL's host if its domain is listed
  pub received-put : (cookie_result : Result Row CookieError) → IsPut (received store cookie_result url now).reply
      → (cookie : Row) × (inserted : Row) × (cookie_result ≡ Ok cookie) × (admitted store.suffixes url cookie ≡ Ok inserted)
      × (row_of (key_of cookie) (received store cookie_result url now).store.rows ≡ Some inserted)
      × (is_listed store.suffixes inserted.domain ≡ true → (inserted.domain ≡ HostOnly (domain_text inserted.domain)) × (host_of url ≡ Some (domain_text inserted.domain)))
  received-put (Err rejection) was_put = absurd (rejected-put rejection was_put)
  received-put (Ok cookie) was_put =
      let (inserted, enters, found, own) = accept-put store cookie url now was_put in (
        cookie,
        inserted,
        refl,
        enters,
        found,
        λ listed. (own listed, admitted-host store.suffixes url cookie inserted enters (own listed)),
      )

  -- if a row is expired, there is a cookie, and the row had not expired
  pub received-live : (cookie_result : Result Row CookieError) → (received store cookie_result url now).reply ≡ Ok ExpiredExisting
      → (cookie : Row) × (row : Row) × (cookie_result ≡ Ok cookie) × (row_of (key_of cookie) store.rows ≡ Some row) × (is_unexpired now row ≡ true)
  received-live (Err rejection) ends = absurd (grind (arith, ends))
  received-live (Ok cookie) ends =
      let (row, held, live) = accept-live store cookie url now ends in (cookie, row, refl, held, live)

  module _ (cookie_result : Result Row CookieError) (cookie : Row) (is : cookie_result ≡ Ok cookie) (ends : (received store cookie_result url now).reply ≡ Ok ExpiredExisting) where
    came : (received store (Ok cookie) url now).reply ≡ Ok ExpiredExisting
    came = sym (ap (λ m. (received store m url now).reply) is) ∙ ends

    -- the row of its key is expired
    pub received-ends : (received store cookie_result url now).store ≡ record store { rows = changed (has_key (key_of cookie)) expired_row store.rows }
    received-ends = ap (λ m. (received store m url now).store) is ∙ accept-ends store cookie url now came

    pub received-row_expired : (row : Row) → row_of (key_of cookie) store.rows ≡ Some row
        → row_of (key_of cookie) (received store cookie_result url now).store.rows ≡ Some (expired_row row)
    received-row_expired row held =
        ap (λ m. row_of (key_of cookie) (received store m url now).store.rows) is
        ∙ accept-row_expired store cookie url now row came held

    -- and the rows of all other keys are unchanged
    pub received-other_row : (key : Key) → same_key key (key_of cookie) ≡ false
        → row_of key (received store cookie_result url now).store.rows ≡ row_of key store.rows
    received-other_row key away =
        ap (λ m. row_of key (received store m url now).store.rows) is ∙ accept-other_row store cookie url now key came away

  -- the row of another key is unchanged, or evicted for an inserted cookie
  pub received-other_key : (cookie_result : Result Row CookieError) (cookie : Row) (key : Key) (row : Row) → cookie_result ≡ Ok cookie → same_key key (key_of cookie) ≡ false
      → row_of key store.rows ≡ Some row → (row_of key (received store cookie_result url now).store.rows ≡ Some row) ⊎ IsEvicted store cookie_result url now key
  received-other_key (Err rejection) cookie key row is away held = inl held
  received-other_key (Ok given) cookie key row is away held =
      let same : given ≡ cookie = cc in
      ⊎_elim (λ stays. inl (stays ∙ held)) (λ (reply, leaves, gone). inr (given, refl, reply, leaves, gone))
      (accept-other_key store given url now key (ap (λ c. same_key key (key_of c)) same ∙ away))

  -- an unexpired HttpOnly row is unchanged for a scheme that is not HTTP, or evicted for an inserted cookie
  pub received-guarded : (cookie_result : Result Row CookieError) (key : Key) (row : Row) → row_of key store.rows ≡ Some row → is_unexpired now row ≡ true
      → is_out_of_reach row.raw url ≡ true → (row_of key (received store cookie_result url now).store.rows ≡ Some row) ⊎ IsEvicted store cookie_result url now key
  received-guarded (Err rejection) key row held live out = inl held
  received-guarded (Ok cookie) key row held live out =
      ⊎_elim (λ stays. inl stays) (λ (reply, leaves, gone). inr (cookie, refl, reply, leaves, gone))
      (accept-guarded store cookie url now key row held live out)
