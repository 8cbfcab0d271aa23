-- The strings after the dots of a host, from the last to the first.
use Rattle.std.proofs.Common.{◌≡◌, ◌≢◌, ℕ, suc, zero, ◌+◌, ◌-◌, ◌<◌, ◌≤◌, ◌⊎◌, Bool, true, false, List, [], ◌∷◌, ◌++◌, length, take, drop, get_or, refl, sym, ◌∙◌, ap, inl, inr, eqb, arith}
use Rattle.std.specs.Prelude.{filter, Option, Some, None, option_map, is_some, slice_range}
use Rattle.std.specs.Str.{IsCharBoundary}
use Rattle.std.proofs.lemmas.Bool.Decides.{nat_tests}
use Rattle.std.proofs.lemmas.List.{drop_more, get_or-take, length-take-le}
use Rattle.std.proofs.lemmas.List.Elements.{filter-append}
use Rattle.cookie_laws.specs.Related.{after_dots}
use Rattle.cookie_strict.specs.Roots.{last_or}

bool_cases : (b : Bool) → (b ≡ true) ⊎ (b ≡ false)
bool_cases true = inl refl
bool_cases false = inr refl

at_dot : (bs : List ℕ) (i : ℕ) → i < length bs → get_or bs i 0 ≡ 46 → after_dots (drop i bs) ≡ drop (i + 1) bs ∷ after_dots (drop (i + 1) bs)
at_dot bs i l e = ap after_dots (drop_more bs i 0 l) ∙ rw e refl

at_no_dot : (bs : List ℕ) (i : ℕ) → i < length bs → eqb (get_or bs i 0) 46 ≡ false → after_dots (drop i bs) ≡ after_dots (drop (i + 1) bs)
at_no_dot bs i l e = ap after_dots (drop_more bs i 0 l) ∙ rw e refl

-- the strings after a position are the last ones
dots_suffix : (bs : List ℕ) (i : ℕ) → (done : List (List ℕ)) × (after_dots bs ≡ done ++ after_dots (drop i bs))
dots_suffix bs zero = ([], refl)
dots_suffix [] (suc i) = ([], refl)
dots_suffix (b ∷ bs) (suc i) =
    let w = dots_suffix bs i in
    elim (bool_cases (eqb b 46)) [
      | inl e ↦ (bs ∷ w.0, rw e (ap (λ ts. bs ∷ ts) w.1))
      | inr e ↦ (w.0, rw e w.1)
    ]

-- without a dot among them, the next bytes add no string
pub no_dots : (bs : List ℕ) (i n : ℕ) → i + n ≤ length bs → ((j : ℕ) → i ≤ j → j < i + n → get_or bs j 0 ≢ 46)
    → after_dots (drop i bs) ≡ after_dots (drop (i + n) bs)
no_dots bs i zero within none = let same : i ≡ i + zero = omega arith in ap (λ k. after_dots (drop k bs)) same
no_dots bs i (suc n) within none =
    let differs : get_or bs i 0 ≢ 46 = none i (omega arith) (omega arith) in
    let tested : eqb (get_or bs i 0) 46 ≡ false = grind (arith, nat_tests) in
    let more : after_dots (drop (i + 1) bs) ≡ after_dots (drop (i + 1 + n) bs) =
    no_dots bs (i + 1) n (omega arith) (λ j low high. none j (omega arith) (omega arith)) in
    let same : i + 1 + n ≡ i + suc n = omega arith in
    at_no_dot bs i (omega arith) tested ∙ more ∙ ap (λ k. after_dots (drop k bs)) same

-- the last item of a list that ends in one item
last_or_end : {T : Type 0} (other x : T) (xs : List T) → last_or other (xs ++ x ∷ []) ≡ x
last_or_end other x [] = refl
last_or_end other x (y ∷ ys) = last_or_end y x ys

-- a mapped option is there if the option is
pub is_some_of : {A B : Type 0} (f : A → B) (o : Option A) (e : Option B) (b : Bool) → option_map f o ≡ e → is_some o ≡ b → is_some e ≡ b
is_some_of f None e b same is = ap is_some (sym same) ∙ is
is_some_of f (Some x) e b same is = ap is_some (sym same) ∙ is

module _ (host : List ℕ) where
  -- the dot before a position, and none between them
  pub record IsDotBefore (end dot : ℕ) : Type 0 where
    pub within : end ≤ length host
    pub before : dot < end
    pub is : get_or host dot 0 ≡ 46
    pub last : (j : ℕ) → dot < j → j < end → get_or host j 0 ≢ 46

  -- the bytes before a position are bytes of the host
  front_of : (front : List ℕ) (end : ℕ) → front ≡ slice_range host 0 end → front ≡ take end host
  front_of front end is = let same : end - 0 ≡ end = omega arith in is ∙ ap (λ n. take n host) same

  long_as : (front : List ℕ) (end : ℕ) → front ≡ slice_range host 0 end → end ≤ length host → length front ≡ end
  long_as front end is within = ap length (front_of front end is) ∙ length-take-le end host within

  same_byte : (front : List ℕ) (end i : ℕ) → front ≡ slice_range host 0 end → i < end → get_or front i 0 ≡ get_or host i 0
  same_byte front end i is less = ap (λ bs. get_or bs i 0) (front_of front end is) ∙ get_or-take end host i 0 less

  -- such a dot is found in the bytes before the position
  pub dot_found : (front : List ℕ) (end dot : ℕ) → front ≡ slice_range host 0 end → end ≤ length host
      → (dot < length front) × (get_or front dot 0 ≡ 46) × ((i : ℕ) → dot < i → i < length front → get_or front i 0 ≢ 46) → IsDotBefore end dot
  dot_found front end dot is within found =
      let long : length front ≡ end = long_as front end is within in
      record {
        within = within;
        before = omega (arith, found.0);
        is = sym (same_byte front end dot is (omega (arith, found.0))) ∙ found.1;
        last = λ j low high e. found.2 j low (omega arith) (same_byte front end j is high ∙ e);
      }

  -- the host may be cut at a dot
  pub cut_at_dot : (end dot : ℕ) → IsDotBefore end dot → IsCharBoundary host dot
  cut_at_dot end dot at = (omega (arith, at.within, at.before), λ k h. absurd (omega (arith, at.is, h)))

module _ (test : List ℕ → Bool) (host : List ℕ) where
  -- the strings after a position that pass the test
  abbrev pub passing : ℕ → List (List ℕ)
  passing i = filter test (after_dots (drop i host))

  -- from the dot on there is one string more
  pub one_more : (end dot : ℕ) → IsDotBefore host end dot → passing end ≡ [] → passing dot ≡ filter test (drop (dot + 1) host ∷ [])
  one_more end dot at none =
      let far : ℕ = end - (dot + 1) in
      let sum : dot + 1 + far ≡ end = omega (arith, at.before) in
      let between : after_dots (drop (dot + 1) host) ≡ after_dots (drop (dot + 1 + far) host) =
      no_dots host (dot + 1) far (omega (arith, at.within)) (λ j low high. at.last j (omega arith) (omega arith)) in
      let rest : filter test (after_dots (drop (dot + 1) host)) ≡ [] =
      ap (filter test) between ∙ ap passing sum ∙ none in
      ap (filter test) (at_dot host dot (omega (arith, at.within, at.before)) at.is) ∙ one_and (drop (dot + 1) host) _ rest
    where
      one_and : (text : List ℕ) (texts : List (List ℕ)) → filter test texts ≡ [] → filter test (text ∷ texts) ≡ filter test (text ∷ [])
      one_and text texts e = elim (bool_cases (test text)) [
        | inl passes ↦ rw (passes, e) refl
        | inr fails ↦ rw (fails, e) refl
      ]

  -- the first string from the right that passes is the last one of all
  pub root_found : (end dot : ℕ) → IsDotBefore host end dot → passing end ≡ [] → test (drop (dot + 1) host) ≡ true
      → drop (dot + 1) host ≡ last_or host (filter test (after_dots host))
  root_found end dot at none passes =
      let shorter = drop (dot + 1) host in
      let w = dots_suffix host dot in
      let all : filter test (after_dots host) ≡ filter test w.0 ++ shorter ∷ [] =
      ap (filter test) w.1 ∙ filter-append test w.0 (after_dots (drop dot host)) ∙ ap (λ ts. filter test w.0 ++ ts) (one_more end dot at none ∙ rw passes refl) in
      sym (ap (last_or host) all ∙ last_or_end host shorter (filter test w.0))

  -- a string that fails the test is left out
  pub still_none : (end dot : ℕ) → IsDotBefore host end dot → passing end ≡ [] → test (drop (dot + 1) host) ≡ false → passing dot ≡ []
  still_none end dot at none fails = one_more end dot at none ∙ rw fails refl

  -- without a dot before the position there is no string that passes: the root is the host
  pub no_root : (front : List ℕ) (end : ℕ) → front ≡ slice_range host 0 end → end ≤ length host
      → ((i : ℕ) → i < length front → get_or front i 0 ≢ 46) → passing end ≡ [] → host ≡ last_or host (filter test (after_dots host))
  no_root front end is within no_dot none =
      let same : 0 + end ≡ end = omega arith in
      let long : length front ≡ end = long_as host front end is within in
      let all : filter test (after_dots host) ≡ [] =
      ap (filter test) (no_dots host 0 end (omega arith)
      (λ j low high e. no_dot j (omega arith) (same_byte host front end j is (omega arith) ∙ e))) ∙ ap passing same ∙ none in
      sym (ap (last_or host) all)
