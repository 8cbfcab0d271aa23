-- Calls between which "leave secure cookies alone" compares no cookies of two roots.
use Rattle.std.proofs.Common.{◌≡◌, ℕ, Bool, true, false, not, ◌&&◌, List, [], ◌∷◌, Option, Some, None, ⊎_elim, ◌∙◌, refl, sym, ap, arith}
use Rattle.std.specs.Prelude.{is_some}
use Rattle.std.specs.List.{list_any}
use Rattle.std.specs.Str.{bytes_eq}
use Rattle.std.proofs.lemmas.Bool.{and_left, and_parts, and_right, cases_Bool, not-false, or_parts}
use Rattle.std.proofs.lemmas.Slice.Eq.{bytes_eq-Decides}
use Rattle.cookie_psl.specs.Rules.{RuleList}
use Rattle.cookie_parts.specs.Hosts.{is_host_name, passes}
use Rattle.cookie_laws.specs.Runs.{Call}
use Rattle.cookie_strict.specs.Roots.{is_registrable, root_of}
use Rattle.cookie_strict.specs.SecureUrl.{is_secure_url}
use Rattle.cookie_strict.specs.Shards.{call_host, insertion_url, is_below_ipv4, is_beside, is_from_suffix, is_insecure_at, is_insecure_insertion, is_secure_beside, is_secure_insertion}
use Rattle.cookie_strict.proofs.AdmittedCookies.{passes-value}
use Rattle.cookie_strict.proofs.RootsOfDomains.{beside-none}

-- nothing passes a test that allows less
none-weaker : {T : Type 0} (p q : T → Bool) → ((x : T) → q x ≡ true → p x ≡ true) → (xs : List T) → list_any p xs ≡ false → list_any q xs ≡ false
none-weaker p q allows [] none = refl
none-weaker p q allows (x ∷ xs) none = grind (arith, allows x, none-weaker p q allows xs)

-- something that passes one test and none of two others
some-without : {T : Type 0} (p q r : T → Bool) (xs : List T) → list_any p xs ≡ true → list_any q xs ≡ false → list_any r xs ≡ false
    → (x : T) × (p x ≡ true) × (q x ≡ false) × (r x ≡ false)
some-without p q r [] some first second = absurd (cc)
some-without p q r (x ∷ xs) some first second =
    let a = or_parts (q x) (list_any q xs) first in
    let b = or_parts (r x) (list_any r xs) second in
    ⊎_elim (λ is. (x, is, a.0, b.0)) (λ fails. some-without p q r xs (grind (arith, some, fails)) a.1 b.1) (cases_Bool (p x))

-- nothing passes that must pass one of two others
none-without : {T : Type 0} (p q r : T → Bool) → ((x : T) → q x ≡ false → r x ≡ false → p x ≡ false) → (xs : List T) → list_any q xs ≡ false
    → list_any r xs ≡ false → list_any p xs ≡ false
none-without p q r fails [] first second = refl
none-without p q r fails (x ∷ xs) first second =
    let a = or_parts (q x) (list_any q xs) first in
    let b = or_parts (r x) (list_any r xs) second in
    grind (arith, fails x a.0 b.0, none-without p q r fails xs a.1 b.1)

some-passes : {T : Type 0} (p : T → Bool) (value : Option T) → passes p value ≡ true → is_some value ≡ true
some-passes p None is = absurd (cc)
some-passes p (Some x) is = refl

-- the host of an insertion that is not from a public suffix
host-known : (rules : RuleList) (call : Call) (host : List ℕ) → is_some (insertion_url call) ≡ true → is_from_suffix rules call ≡ false
    → call_host call ≡ Some host → is_host_name host ≡ true → is_registrable rules host ≡ true
host-known rules call host inserts proper at named =
    let of_host : (is_host_name host && not (is_registrable rules host)) ≡ false =
    ap (passes (λ h. is_host_name h && not (is_registrable rules h))) (sym at)
    ∙ ap (λ b. b && passes (λ h. is_host_name h && not (is_registrable rules h)) (call_host call)) (sym inserts) ∙ proper in
    not-false (is_registrable rules host) (ap (λ b. b && not (is_registrable rules host)) (sym named) ∙ of_host)

module _ (rules : RuleList) (root : List ℕ) where
  -- neither an insecure insertion at the root nor a secure one beside it comes from a host that is a public suffix
  apart : (first second : Call) → is_insecure_at rules root first ≡ true → is_from_suffix rules first ≡ false → passes is_below_ipv4 (call_host first) ≡ false
      → is_from_suffix rules second ≡ false → passes is_below_ipv4 (call_host second) ≡ false → is_secure_beside rules root second ≡ false
  apart first second insecure proper above second_proper second_above =
      let (by_url, by_host) = and_parts (is_insecure_insertion first) (passes (λ h. bytes_eq root (root_of rules h)) (call_host first)) insecure in
      let (host, at, is) = passes-value (λ h. bytes_eq root (root_of rules h)) (call_host first) by_host in
      let same : root ≡ root_of rules host = (bytes_eq-Decides root (root_of rules host)).0 is in
      let known = host-known rules first host (some-passes (λ url. not (is_secure_url url)) (insertion_url first) by_url) proper at in
      let host_above : is_below_ipv4 host ≡ false = ap (passes is_below_ipv4) (sym at) ∙ above in
      ⊎_elim
      (λ secure. ⊎_elim
      (λ near.
      let (other, of_url, beside) = passes-value (is_beside rules root) (call_host second) near in
      let other_known = host-known rules second other (some-passes is_secure_url (insertion_url second) secure) second_proper of_url in
      let none : is_beside rules root other ≡ false =
      ap (λ r. is_beside rules r other) same
      ∙ beside-none rules host other host_above (ap (passes is_below_ipv4) (sym of_url) ∙ second_above) known other_known in
      and_right (is_secure_insertion second) (passes (is_beside rules root) (call_host second)) (ap (passes (is_beside rules root)) of_url ∙ none))
      (λ away. and_right (is_secure_insertion second) (passes (is_beside rules root) (call_host second)) away)
      (cases_Bool (passes (is_beside rules root) (call_host second))))
      (λ plain. and_left (is_secure_insertion second) (passes (is_beside rules root) (call_host second)) plain)
      (cases_Bool (is_secure_insertion second))

  abbrev is_call_below : Call → Bool
  is_call_below call = passes is_below_ipv4 (call_host call)

  pub separate-without_suffixes : (calls : List Call) → list_any is_call_below calls ≡ false → list_any (is_from_suffix rules) calls ≡ false
      → (list_any (is_insecure_at rules root) calls && list_any (is_secure_beside rules root) calls) ≡ false
  separate-without_suffixes calls above proper =
      ⊎_elim
      (λ some.
      let (first, insecure, first_proper, first_above) = some-without (is_insecure_at rules root) (is_from_suffix rules) is_call_below calls some proper above in
      and_right (list_any (is_insecure_at rules root) calls) (list_any (is_secure_beside rules root) calls)
      (none-without (is_secure_beside rules root) (is_from_suffix rules) is_call_below
      (λ second. apart first second insecure first_proper first_above) calls proper above))
      (λ none. and_left (list_any (is_insecure_at rules root) calls) (list_any (is_secure_beside rules root) calls) none)
      (cases_Bool (list_any (is_insecure_at rules root) calls))

  pub separate-secure : (calls : List Call) → list_any is_insecure_insertion calls ≡ false
      → (list_any (is_insecure_at rules root) calls && list_any (is_secure_beside rules root) calls) ≡ false
  separate-secure calls secure =
      and_left (list_any (is_insecure_at rules root) calls) (list_any (is_secure_beside rules root) calls)
      (none-weaker is_insecure_insertion (is_insecure_at rules root)
      (λ call is. (and_parts (is_insecure_insertion call) (passes (λ h. bytes_eq root (root_of rules h)) (call_host call)) is).0) calls secure)
