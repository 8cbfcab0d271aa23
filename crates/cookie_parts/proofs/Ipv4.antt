-- The strings that std parses as an IPv4 address are four octets joined by dots.
use Rattle.std.proofs.Common.{◌≡◌, ℕ, ◌<◌, ◌==◌, Bool, true, false, List, [], ◌∷◌, ◌++◌, length, map, decimal, Result, Ok, Err, refl, append_assoc, sym, arith, ne_eqb, eqb-true}
use Rattle.std.specs.List.{All, list_all, join_with_byte}
use Rattle.std.specs.Result.{is_ok}
use Rattle.std.specs.Str.Parse.{digits_value}
use Rattle.std.specs.Net.Addr.{ipv4_octets}
use Rattle.std.specs.Net.Grammar.{IsDotted, IsIpv4Text, Parses}
use Rattle.std.specs.Net.Text.{dotted_text}
use Rattle.std.specs.declared.net.ipv4_addr.Ipv4Addr.{Ipv4Addr}
use Rattle.std.proofs.lemmas.Bool.{and_from, and_parts, false_from_ne_true, le-leb, leb-true}
use Rattle.std.proofs.lemmas.Fmt.{decimal_is_IsNumeral}
use Rattle.std.proofs.lemmas.List.{get_or_default}
use Rattle.std.proofs.lemmas.List.Splits.{slice_split_at, slice_split_none, join_with_byte-slice_split}
use Rattle.std.proofs.lemmas.Slice.Eq.{bytes_eq-Decides}
use Rattle.std.proofs.lemmas.Str.Parse.{digit_at}
use Rattle.cookie_words.specs.Strings.{pieces}
use Rattle.cookie_parts.specs.Hosts.{is_octet, is_ipv4}

-- the byte is a dot
abbrev is_dot : ℕ → Bool
is_dot b = b == 46

-- a decimal number has no dot
decimal_without_dot : (n : ℕ) → n < 256 → All (λ b. is_dot b ≡ false) (decimal n)
decimal_without_dot n small k d inside =
    let digit = digit_at (decimal n) k (decimal_is_IsNumeral n (omega arith)).0.1 inside in
    rw (get_or_default (decimal n) k d 0 inside) (ne_eqb _ 46 (λ e. omega arith))

-- a dotted string, split after its first number
dotted_text_is : (a b c d : ℕ) → dotted_text a b c d ≡ decimal a ++ 46 ∷ (decimal b ++ 46 ∷ (decimal c ++ 46 ∷ decimal d))
dotted_text_is a b c d = simp append_assoc

-- the pieces of a dotted string are its four numbers
pieces-dotted_text : (a b c d : ℕ) → a < 256 → b < 256 → c < 256 → d < 256
    → pieces 46 (dotted_text a b c d) ≡ decimal a ∷ decimal b ∷ decimal c ∷ decimal d ∷ []
pieces-dotted_text a b c d fit_a fit_b fit_c fit_d =
    rw (
      dotted_text_is,
      slice_split_at is_dot (decimal a) 46 _ (decimal_without_dot a fit_a) refl,
      slice_split_at is_dot (decimal b) 46 _ (decimal_without_dot b fit_b) refl,
      slice_split_at is_dot (decimal c) 46 _ (decimal_without_dot c fit_c) refl,
      slice_split_none is_dot (decimal d) (decimal_without_dot d fit_d),
    )

-- a number below 256 in decimal is an octet
is_octet-decimal : (n : ℕ) → n < 256 → is_octet (decimal n) ≡ true
is_octet-decimal n small =
    rw (decimal_is_IsNumeral n (omega arith)).1
    (and_from _ _ ((bytes_eq-Decides (decimal n) (decimal n)).1 refl) (le-leb n 255 (omega arith)))

-- a dotted string has four octets
is_ipv4-dotted_text : (text octets : List ℕ) → IsDotted text octets → is_ipv4 text ≡ true
unfolding is_ipv4
is_ipv4-dotted_text text octets h =
    rw (
      h.spelled,
      pieces-dotted_text h.a h.b h.c h.d h.fit.0 h.fit.1 h.fit.2 h.fit.3,
      is_octet-decimal h.a h.fit.0,
      is_octet-decimal h.b h.fit.1,
      is_octet-decimal h.c h.fit.2,
      is_octet-decimal h.d h.fit.3,
    )

-- an octet is a number below 256 in decimal
octet_is_decimal : (text : List ℕ) → is_octet text ≡ true
    → (digits_value 10 text < 256) × (text ≡ decimal (digits_value 10 text))
octet_is_decimal text is =
    let (same, small) = and_parts _ _ is in
    (omega (arith, leb-true _ _ small), (bytes_eq-Decides _ _).0 same)

-- four octets, joined by dots, are a dotted string
IsDotted-join_with_byte : (parts : List (List ℕ)) → length parts ≡ 4 → list_all is_octet parts ≡ true
    → IsDotted (join_with_byte 46 parts) (map (digits_value 10) parts)
IsDotted-join_with_byte [] four octets = absurd (omega arith)
IsDotted-join_with_byte (a ∷ []) four octets = absurd (omega arith)
IsDotted-join_with_byte (a ∷ b ∷ []) four octets = absurd (omega arith)
IsDotted-join_with_byte (a ∷ b ∷ c ∷ []) four octets = absurd (omega arith)
IsDotted-join_with_byte (a ∷ b ∷ c ∷ d ∷ []) four octets =
    let (octet_a, after_a) = and_parts (is_octet a) _ octets in
    let (octet_b, after_b) = and_parts (is_octet b) _ after_a in
    let (octet_c, after_c) = and_parts (is_octet c) _ after_b in
    let (octet_d, after_d) = and_parts (is_octet d) _ after_c in
    let is_a = octet_is_decimal a octet_a in
    let is_b = octet_is_decimal b octet_b in
    let is_c = octet_is_decimal c octet_c in
    let is_d = octet_is_decimal d octet_d in
    record {
      a = digits_value 10 a;
      b = digits_value 10 b;
      c = digits_value 10 c;
      d = digits_value 10 d;
      fit = (is_a.0, is_b.0, is_c.0, is_d.0);
      value = refl;
      spelled = rw (dotted_text_is, ← is_a.1, ← is_b.1, ← is_c.1, ← is_d.1);
    }
IsDotted-join_with_byte (a ∷ b ∷ c ∷ d ∷ e ∷ more) four octets = absurd (omega arith)

-- a string of four octets is a dotted string
IsDotted-is_ipv4 : (text : List ℕ) → is_ipv4 text ≡ true → IsDotted text (map (digits_value 10) (pieces 46 text))
unfolding is_ipv4
IsDotted-is_ipv4 text is =
    let (four, octets) = and_parts _ _ is in
    let dotted = IsDotted-join_with_byte (pieces 46 text) (eqb-true _ _ four) octets in
    rw join_with_byte-slice_split at dotted

-- `parse` returns an address exactly if the string is one
pub is_ok-parse : {E : Type 0} (text : List ℕ) (r : Result Ipv4Addr E) → Parses IsIpv4Text text r → is_ok r ≡ is_ipv4 text
is_ok-parse text (Ok a) h = sym (is_ipv4-dotted_text text (ipv4_octets a) h)
is_ok-parse text (Err e) none =
    let octets = map (digits_value 10) (pieces 46 text) in
    sym (false_from_ne_true _ (λ is. none (record { octets = octets }) (IsDotted-is_ipv4 text is)))
