-- Equality of raw cookies: all their accessors return equal values.
use Rattle.std.specs.Prelude.{ℕ, Bool, ◌&&◌, List, nat_eq, ℤ, Option, Some, None}
use Rattle.std.specs.Bool.{beq}
use Rattle.std.specs.Cmp.{IsEquivalence, IsPartialEquivalence, and_equiv, on_equiv, int_eq_equiv, bool_eq_equiv, partial_equiv_from_equiv}
use Rattle.std.specs.Cmp.Lexicographic.{nat_list_eq_equiv, on_texts_equal, options_equiv, pointwise}
use Rattle.std.specs.Option.{option_eq}
use Rattle.std.specs.Ordering.{int_eq, on}
use Rattle.cookie_words.specs.Moments.{nanoseconds}
use Rattle.cookie_raw.specs.CookieText.{site_text}
use Rattle.cookie_raw.specs.Raw.{Raw, ExpiresValue, At, Session}
use Rattle.cookie_raw.specs.declared.same_site.SameSite.{SameSite}

abbrev same_text : List ℕ → List ℕ → Bool
same_text = pointwise nat_eq

-- the same value of SameSite
abbrev pub same_site : SameSite → SameSite → Bool
same_site = on site_text same_text

-- the time of Expires in nanoseconds, if it is one
abbrev pub expires_nanoseconds : ExpiresValue → Option ℤ
expires_nanoseconds (At moment) = Some (nanoseconds moment)
expires_nanoseconds Session = None

-- both the same time, or both the end of the session
abbrev pub same_expires : ExpiresValue → ExpiresValue → Bool
same_expires = on expires_nanoseconds (option_eq int_eq)

-- the same name, value, domain and path
abbrev pub same_texts : Raw → Raw → Bool
same_texts a b =
    same_text a.name b.name && (same_text a.value b.value
    && (option_eq same_text a.domain b.domain && option_eq same_text a.path b.path))

-- the same other attributes
abbrev pub same_attributes : Raw → Raw → Bool
same_attributes a b =
    option_eq beq a.secure b.secure && (option_eq beq a.http_only b.http_only
    && (option_eq same_site a.same_site b.same_site
    && (option_eq int_eq a.max_age b.max_age && option_eq same_expires a.expires b.expires)))

-- the same in all parts
abbrev pub same_parts : Raw → Raw → Bool
same_parts a b = same_texts a b && same_attributes a b

same_texts_equiv : IsEquivalence same_texts
same_texts_equiv =
    and_equiv (on_texts_equal (λ c. c.name))
    (and_equiv (on_texts_equal (λ c. c.value))
    (and_equiv (on_equiv (λ c. c.domain) (options_equiv nat_list_eq_equiv)) (on_equiv (λ c. c.path) (options_equiv nat_list_eq_equiv))))

same_attributes_equiv : IsEquivalence same_attributes
same_attributes_equiv =
    and_equiv (on_equiv (λ c. c.secure) (options_equiv bool_eq_equiv))
    (and_equiv (on_equiv (λ c. c.http_only) (options_equiv bool_eq_equiv))
    (and_equiv (on_equiv (λ c. c.same_site) (options_equiv (on_texts_equal site_text)))
    (and_equiv (on_equiv (λ c. c.max_age) (options_equiv int_eq_equiv))
    (on_equiv (λ c. c.expires) (options_equiv (on_equiv expires_nanoseconds (options_equiv int_eq_equiv)))))))

-- it is an equivalence
pub same_parts_equiv : IsEquivalence same_parts
same_parts_equiv = and_equiv same_texts_equiv same_attributes_equiv

-- it is a partial equivalence, as the trait of `==` asks
pub same_parts_per : IsPartialEquivalence same_parts
same_parts_per = partial_equiv_from_equiv same_parts_equiv
