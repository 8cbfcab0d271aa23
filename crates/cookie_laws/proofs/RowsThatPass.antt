-- If every row passes a test of its raw cookie and its key, every row passes it after a call.
use Rattle.std.proofs.Common.{◌≡◌, Bool, true, not, filter, Option, Result, Ok, Err}
use Rattle.std.specs.Prelude.{IfOk}
use Rattle.std.specs.List.{All}
use Rattle.std.proofs.lemmas.Bool.{cond_both}
use Rattle.std.proofs.lemmas.List.Elements.{All-filter}
use Rattle.url.specs.Parts.{Parts}
use Rattle.cookie_words.specs.Moments.{Moment}
use Rattle.cookie_psl.specs.Rules.{RuleList}
use Rattle.cookie_raw.specs.Raw.{Raw}
use Rattle.cookie_parts.specs.Cookie.{Row, and_then, expired_row, is_out_of_reach}
use Rattle.cookie_parts.specs.Domain.{HostOnly, domain_matches, domain_text, host_is_identical}
use Rattle.cookie_parts.specs.declared.cookie_error.CookieError.{CookieError}
use Rattle.cookie_parts.specs.declared.cookie_error.CookieError.TheVariants.{NonHttpScheme, DomainMismatch, PublicSuffix}
use Rattle.cookie_parts.specs.declared.store_action.StoreAction.{StoreAction}
use Rattle.cookie_parts.specs.declared.store_action.StoreAction.TheVariants.{Inserted, ExpiredExisting, UpdatedExisting}
use Rattle.cookie_laws.specs.Acceptance.{accept, admitted, by_domain, by_list, by_scheme, is_listed, reply_at}
use Rattle.cookie_laws.specs.Contents.{Contents, is_none_of}
use Rattle.cookie_laws.specs.Rows.{Key, has_key, key_of, row_of}
use Rattle.cookie_laws.specs.SecureLast.{accept_secure_last, evicted_secure_last, store_after_checks_secure_last, store_secure_last_by}
use Rattle.cookie_laws.proofs.AcceptedRows.{All-accept, All-changed, All-put}
use Rattle.cookie_laws.proofs.ConfinedRows.{IfOk_at, and_then-IfOk}

module _ (test : Raw → Key → Bool) where
  -- the row passes
  abbrev pub Passes : Row → Type 0
  Passes row = test row.raw (key_of row) ≡ true

  -- so does the admitted cookie
  by_scheme-Passes : (url : Parts) (cookie : Row) → Passes cookie → IfOk (by_scheme url cookie) Passes
  by_scheme-Passes url cookie passes =
      cond_both (is_out_of_reach cookie.raw url) (Err NonHttpScheme) (Ok cookie) (λ r. IfOk r Passes) (λ _. tt) (λ _. passes)

  by_list-Passes : (suffixes : Option RuleList) (url : Parts) (cookie : Row) → Passes cookie → IfOk (by_list suffixes url cookie) Passes
  by_list-Passes suffixes url cookie passes =
      let own : Row = record cookie { domain = HostOnly (domain_text cookie.domain) } in
      cond_both (not (is_listed suffixes cookie.domain)) (Ok cookie) _ (λ r. IfOk r Passes) (λ _. passes)
      (λ _. cond_both (host_is_identical cookie.domain url) (Ok own) (Err PublicSuffix) (λ r. IfOk r Passes) (λ _. passes) (λ _. tt))

  by_domain-Passes : (url : Parts) (cookie : Row) → Passes cookie → IfOk (by_domain url cookie) Passes
  by_domain-Passes url cookie passes =
      cond_both (domain_matches cookie.domain url) (Ok cookie) (Err DomainMismatch) (λ r. IfOk r Passes) (λ _. passes) (λ _. tt)

  admitted-Passes : (suffixes : Option RuleList) (url : Parts) (cookie : Row) → Passes cookie → IfOk (admitted suffixes url cookie) Passes
  admitted-Passes suffixes url cookie passes =
      let listed = and_then (by_scheme url cookie) (by_list suffixes url) in
      and_then-IfOk Passes listed (by_domain url)
      (λ passed is. by_domain-Passes url passed
      (IfOk_at Passes listed passed
      (and_then-IfOk Passes (by_scheme url cookie) (by_list suffixes url)
      (λ first at. by_list-Passes suffixes url first (IfOk_at Passes (by_scheme url cookie) first (by_scheme-Passes url cookie passes) at)))
      is))

  -- and each row after an insertion
  pub accepted-pass : (store : Contents) (cookie : Row) (url : Parts) (now : Moment) → Passes cookie → All Passes store.rows
      → All Passes (accept store cookie url now).store.rows
  accepted-pass store cookie url now passes old =
      All-accept Passes (λ _ still. still) store cookie url now
      (λ stored is _. IfOk_at Passes (admitted store.suffixes url cookie) stored (admitted-Passes store.suffixes url cookie passes) is)
      old

  -- also if Secure rows are evicted last
  secure_last_by-pass : (reply : Result StoreAction CookieError) (store : Contents) (cookie : Row) (now : Moment) → Passes cookie → All Passes store.rows
      → All Passes (store_secure_last_by reply store cookie now).rows
  secure_last_by-pass (Ok Inserted) store cookie now passes old =
      let keys = evicted_secure_last store now (key_of cookie) in
      All-put Passes (λ _ still. still) (filter (λ row. is_none_of keys (key_of row)) store.rows) cookie passes
      (All-filter (λ row. is_none_of keys (key_of row)) Passes store.rows old)
  secure_last_by-pass (Ok UpdatedExisting) store cookie now passes old = All-put Passes (λ _ still. still) store.rows cookie passes old
  secure_last_by-pass (Ok ExpiredExisting) store cookie now passes old = All-changed Passes (has_key (key_of cookie)) expired_row (λ _ still. still) store.rows old
  secure_last_by-pass (Err rejection) store cookie now passes old = old

  after_checks-pass : (cookie_result : Result Row CookieError) (url : Parts) (now : Moment) (store : Contents) → IfOk cookie_result Passes → All Passes store.rows
      → All Passes (store_after_checks_secure_last cookie_result url now store).rows
  after_checks-pass (Ok cookie) url now store passes old =
      secure_last_by-pass (reply_at (row_of (key_of cookie) store.rows) cookie url now) store cookie now passes old
  after_checks-pass (Err rejection) url now store passes old = old

  pub accepted_secure_last-pass : (store : Contents) (cookie : Row) (url : Parts) (now : Moment) → Passes cookie → All Passes store.rows
      → All Passes (accept_secure_last store cookie url now).rows
  accepted_secure_last-pass store cookie url now passes old =
      after_checks-pass (admitted store.suffixes url cookie) url now store (admitted-Passes store.suffixes url cookie passes) old
