use Rattle.std.proofs.Common.{◌≡◌, List, [], ◌∷◌, length, map, Option, Some, None, Result, Ok, Err, OnErr, refl, ap, ◌∙◌, arith}
use Rattle.std.specs.Prelude.{◌≢◌}
use Rattle.std.specs.List.{filter}
use Rattle.std.proofs.lemmas.Bool.{cond-false}
use Rattle.std.proofs.lemmas.List.Sorted.{length_permutation}
use Rattle.url.specs.Parts.{Parts}
use Rattle.cookie_words.specs.Moments.{Moment, moment_of}
use Rattle.cookie_parts.specs.Cookie.{Row}
use Rattle.cookie_laws.specs.Contents.{Contents}
use Rattle.cookie_laws.specs.Given.{given}
use Rattle.cookie_strict.specs.CrossSite.{is_sent}
use Rattle.cookie_strict.specs.SecureUrl.{as_secure, with_https}
use Rattle.cookie_strict.specs.declared.context.Context.{Context}
use Rattle.cookie_store_c.specs.Headers.{AreCookiesOf, HasPlainUrl}
use Rattle.cookie_store_c.proofs.header.cookie_header.Goals as goal

-- a list of no length is empty
none : {T : Type 0} (xs : List T) → length xs ≡ 0 → xs ≡ []
none [] h = refl
none (x ∷ xs) h = absurd (omega (arith, h))

-- nor has a list that is mapped to an empty one any items
no_map : {A B : Type 0} (f : A → B) (xs : List A) → map f xs ≡ [] → xs ≡ []
no_map f [] h = refl
no_map f (x ∷ xs) h = absurd (cc)

-- if what follows from an error follows from another fact, so does it after that error
on_err_map : {A E P Q : Type 0} (result : Result A E) → (P → Q) → OnErr result P → OnErr result Q
on_err_map (Ok a) f known = tt
on_err_map (Err error) f known = f known

-- if a cookie is sent, one is given
some_given : (context : Option Context) (url : Parts) (now : Moment) (store : Contents) (cookies : List Row) → HasPlainUrl context url
    → AreCookiesOf context url now store cookies → cookies ≢ [] → given url now store.rows ≢ []
some_given None url now store cookies plain order some empty =
    some (none cookies (length_permutation (given url now store.rows) cookies order.0 ∙ ap length empty))
some_given (Some context) url now store cookies plain (all, order, is) some empty =
    let same : as_secure url ≡ url = cond-false _ (with_https url) url plain in
    let none_found : given (as_secure url) now store.rows ≡ [] = ap (λ u. given u now store.rows) same ∙ empty in
    some (is ∙ ap (filter (is_sent context)) (none all (length_permutation (given (as_secure url) now store.rows) all order.0 ∙ ap length none_found)))

pub returns-clause-memory : goal.returns-clause-memory
returns-clause-memory c plain =
    on_err_map c.cookie_string.result
    (λ some. some_given c.args.context c.args.url.now (moment_of c.args.now) c.args.store.now _ plain c.in_ok-header_cookies.ensures.sent
    (λ empty. some (c.deref.ensures.value ∙ no_map (λ c. c.now) _ empty)))
    c.cookie_string.ensures.memory
