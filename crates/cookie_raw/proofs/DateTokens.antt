-- One more token of a date adds what `with_token` adds.
use Rattle.std.proofs.Common.{◌≡◌, ℕ, Bool, true, false, ◌&&◌, ◌||◌, List, [], ◌∷◌, ◌++◌, Option, Some, None, map, refl, sym, ap, ◌∙◌}
use Rattle.std.specs.Prelude.{filter_map, is_some, is_none, if◌then◌else◌}
use Rattle.std.specs.Borrow.{Bor}
use Rattle.std.specs.List.{cons_option}
use Rattle.std.proofs.lemmas.Bool.{and_parts}
use Rattle.std.proofs.lemmas.List.{append-nil, map-append}
use Rattle.std.proofs.lemmas.List.Elements.{filter_map-append}
use Rattle.cookie_raw.specs.CookieDate.{TimeParts, DateParts, first, first_of, without_first, time_of, day_of, month_of, year_of, parts_of}
use Rattle.cookie_raw.specs.DateSteps.{with_token}
use Rattle.cookie_raw.proofs.DateForms.{month_is_no_other}

-- whether a token is the first of its form
abbrev is_taken : {A B : Type 0} → Option A → Option B → Bool
is_taken so_far given = is_none so_far && is_some given

-- the token, unless it is taken
abbrev unless_taken : Bool → List ℕ → List (List ℕ)
unless_taken taken token = if taken then [] else token ∷ []

-- the first element after at most one more is appended
first-cons_option : {T : Type 0} (xs : List T) (o : Option T) → first (xs ++ cons_option o []) ≡ (if is_taken (first xs) o then o else first xs)
first-cons_option [] None = refl
first-cons_option [] (Some x) = refl
first-cons_option (x ∷ xs) o = refl

-- the value of the first token of a form, with one more token
first_of-push : {T : Type 0} (form : List ℕ → Option T) (before : List (List ℕ)) (token : List ℕ)
    → first_of form (before ++ token ∷ []) ≡ (if is_taken (first_of form before) (form token) then form token else first_of form before)
first_of-push form before token =
    ap first (filter_map-append form before (token ∷ [])) ∙ first-cons_option (filter_map form before) (form token)

-- the same, with one more token unless it is taken
first_of-unless_taken : {T : Type 0} (form : List ℕ → Option T) (taken : Bool) (before : List (List ℕ)) (token : List ℕ)
    → first_of form (before ++ unless_taken taken token)
    ≡ (if taken then first_of form before else (if is_taken (first_of form before) (form token) then form token else first_of form before))
first_of-unless_taken form true before token = ap (first_of form) (append-nil before)
first_of-unless_taken form false before token = first_of-push form before token

-- one more token in front, which is the first of the form or not
without_first-cons : {T : Type 0} (form : List ℕ → Option T) (front : List ℕ) (given : Option T) (before : List (List ℕ)) (token : List ℕ)
    → without_first form (before ++ token ∷ []) ≡ without_first form before ++ unless_taken (is_taken (first_of form before) (form token)) token
    → (if is_some given then before ++ token ∷ [] else front ∷ without_first form (before ++ token ∷ []))
    ≡ (if is_some given then before else front ∷ without_first form before)
    ++ unless_taken (is_taken (first (cons_option given (filter_map form before))) (form token)) token
without_first-cons form front None before token e = ap (λ rest. front ∷ rest) e
without_first-cons form front (Some x) before token e = refl

-- the tokens except the first of a form, with one more token
without_first-push : {T : Type 0} (form : List ℕ → Option T) (before : List (List ℕ)) (token : List ℕ)
    → without_first form (before ++ token ∷ []) ≡ without_first form before ++ unless_taken (is_taken (first_of form before) (form token)) token
without_first-push form [] token = refl
without_first-push form (front ∷ before) token =
    without_first-cons form front (form front) before token (without_first-push form before token)

-- the same, with one more token unless it is taken
without_first-unless_taken : {T : Type 0} (form : List ℕ → Option T) (taken : Bool) (before : List (List ℕ)) (token : List ℕ)
    → without_first form (before ++ unless_taken taken token)
    ≡ without_first form before ++ unless_taken (taken || is_taken (first_of form before) (form token)) token
without_first-unless_taken form true before token =
    ap (without_first form) (append-nil before) ∙ sym (append-nil (without_first form before))
without_first-unless_taken form false before token = without_first-push form before token

-- the parts of a date
abbrev parts : Option TimeParts → Option ℕ → Option ℕ → Option ℕ → DateParts
parts time day month year = record { time = time; day = day; month = month; year = year }

-- parts that are equal one by one
same_parts : {time time_too : Option TimeParts} {day day_too month month_too year year_too : Option ℕ}
    → time ≡ time_too → day ≡ day_too → month ≡ month_too → year ≡ year_too → parts time day month year ≡ parts time_too day_too month_too year_too
same_parts e f g h = cc

-- at most one part is set, since a month has no other form
one_part_is_new : (time time_new : Option TimeParts) (day day_new month month_new year year_new : Option ℕ) (is_time is_day is_month is_year : Bool)
    → (is_month ≡ true → (is_time ≡ false) × (is_day ≡ false) × (is_year ≡ false))
    → parts (if is_time then time_new else time) (if is_time then day else (if is_day then day_new else day))
    (if is_month then month_new else month) (if is_time || is_day then year else (if is_year then year_new else year))
    ≡ (if is_time then parts time_new day month year
    else (if is_day then parts time day_new month year
    else (if is_month then parts time day month_new year
    else (if is_year then parts time day month year_new
    else parts time day month year))))
one_part_is_new time time_new day day_new month month_new year year_new true is_day true is_year alone = absurd (cc (alone refl).0)
one_part_is_new time time_new day day_new month month_new year year_new true is_day false is_year alone = refl
one_part_is_new time time_new day day_new month month_new year year_new false true true is_year alone = absurd (cc (alone refl).1)
one_part_is_new time time_new day day_new month month_new year year_new false true false is_year alone = refl
one_part_is_new time time_new day day_new month month_new year year_new false false true true alone = absurd (cc (alone refl).2)
one_part_is_new time time_new day day_new month month_new year year_new false false true false alone = refl
one_part_is_new time time_new day day_new month month_new year year_new false false false true alone = refl
one_part_is_new time time_new day day_new month month_new year year_new false false false false alone = refl

-- a token without the form is not taken
not_taken : {A B : Type 0} (so_far : Option A) (given : Option B) → is_some given ≡ false → is_taken so_far given ≡ false
not_taken None given h = h
not_taken (Some x) given h = refl

-- a token taken as the month is not taken as another part
month_is_taken_alone : (before : DateParts) (token : List ℕ) → is_taken before.month (month_of token) ≡ true
    → (is_taken before.time (time_of token) ≡ false) × (is_taken before.day (day_of token) ≡ false) × (is_taken before.year (year_of token) ≡ false)
month_is_taken_alone before token h =
    let others = month_is_no_other token (and_parts (is_none before.month) (is_some (month_of token)) h).1 in (
      not_taken before.time (time_of token) others.0,
      not_taken before.day (day_of token) others.1,
      not_taken before.year (year_of token) others.2,
    )

-- the parts of a date, with one more token
parts_of-push : (before : List (List ℕ)) (token : List ℕ) → parts_of (before ++ token ∷ []) ≡ with_token (parts_of before) token
parts_of-push before token =
    let so_far = parts_of before in
    let is_time : Bool = is_taken so_far.time (time_of token) in
    let is_day : Bool = is_taken so_far.day (day_of token) in
    let without_time = without_first-push time_of before token in
    let without_day = ap (without_first day_of) without_time ∙ without_first-unless_taken day_of is_time (without_first time_of before) token in
    same_parts (first_of-push time_of before token)
    (ap (first_of day_of) without_time ∙ first_of-unless_taken day_of is_time (without_first time_of before) token)
    (first_of-push month_of before token)
    (ap (first_of year_of) without_day ∙ first_of-unless_taken year_of (is_time || is_day) (without_first day_of (without_first time_of before)) token)
    ∙ one_part_is_new so_far.time (time_of token) so_far.day (day_of token) so_far.month (month_of token) so_far.year (year_of token)
    is_time is_day (is_taken so_far.month (month_of token)) (is_taken so_far.year (year_of token)) (month_is_taken_alone so_far token)

-- the same for borrowed tokens
pub with_next_token : (found : DateParts) (before : List (Bor (List ℕ))) (token : Bor (List ℕ)) → found ≡ parts_of (map (λ x. x.now) before)
    → with_token found token.now ≡ parts_of (map (λ x. x.now) (before ++ token ∷ []))
with_next_token found before token e =
    ap (λ so_far. with_token so_far token.now) e ∙ sym (parts_of-push (map (λ x. x.now) before) token.now)
    ∙ ap parts_of (sym (map-append (λ x. x.now) before (token ∷ [])))
