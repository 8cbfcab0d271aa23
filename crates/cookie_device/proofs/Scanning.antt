-- Searching for the first line feed after the scanned bytes.
use Rattle.std.proofs.Common.{◌≡◌, ◌≢◌, ℕ, ◌+◌, ◌-◌, ◌<◌, ◌≤◌, zero, suc, true, false, not, cond, eqb, ltb, List, length, drop, Option, Some, None, position, length-drop, length-append, arith, subst, ◌++◌}
use Rattle.std.proofs.lemmas.Bool.{false_from_ne_true}
use Rattle.std.proofs.lemmas.Bool.Decides.{nat_tests}
use Rattle.std.proofs.lemmas.Grind.{common_steps}
use Rattle.std.proofs.lemmas.List.Sums.{prefix_len-drop_yes, fails_before_first, position_or_len_is}
use Rattle.std.proofs.Math.ListN.{get_or-append}
use Rattle.std.specs.List.{AllWithin, position_or_len}
use Rattle.memchr.specs.Find.{IsFirstByte, is_byte}
use Rattle.cookie_device.specs.LineBuffers.{IsScanned}

-- the position that `memchr` finds
pub position-first : (bytes : List ℕ) (r : Option ℕ) → IsFirstByte (is_byte 10) bytes r → r ≡ position (λ b. eqb b 10) bytes
position-first bytes None nowhere =
    let end = position_or_len_is (λ b. eqb b 10) bytes (length bytes) 0 (omega arith) (λ k l. false_from_ne_true _ (nowhere k (omega arith) l)) (λ l. absurd (omega arith)) in
    grind (arith, nat_tests, end)
position-first bytes (Some k) found =
    let first = found.0 in
    let place = position_or_len_is (λ b. eqb b 10) bytes k 0 (omega arith) (λ j l. false_from_ne_true _ (first.before j (omega arith) l)) (λ l. found.1) in
    grind (arith, nat_tests, place)

-- a byte other than a line feed does not stop the search
passes : (b : ℕ) → b ≢ 10 → not (eqb b 10) ≡ true
passes b h = grind (arith, nat_tests)

-- a byte that is not found is not a line feed
fails : (b : ℕ) → eqb b 10 ≡ false → b ≢ 10
fails b h = grind (arith, nat_tests)

-- the position from i on, if the first n bytes there have no line feed
place-skipped : (bytes : List ℕ) (i n : ℕ) → i + n ≤ length bytes → AllWithin (λ b. b ≢ 10) bytes i (i + n)
    → position_or_len (λ b. eqb b 10) (drop i bytes) ≡ n + position_or_len (λ b. eqb b 10) (drop (i + n) bytes)
place-skipped bytes i zero within no_feed = grind (arith, common_steps)
place-skipped bytes i (suc n) within no_feed =
    let step = prefix_len-drop_yes (λ b. not (eqb b 10)) bytes i 0 (omega arith) (passes _ (no_feed i 0 (omega arith) (omega arith))) in
    let rest = place-skipped bytes (i + 1) n (omega arith) (λ k d low high. no_feed k d (omega arith) (omega arith)) in
    grind (arith, step, rest)

-- the same for the bytes from start to scanned
place-scanned : (bytes : List ℕ) (start scanned : ℕ) → IsScanned bytes start scanned
    → position_or_len (λ b. eqb b 10) (drop start bytes) ≡ scanned - start + position_or_len (λ b. eqb b 10) (drop scanned bytes)
place-scanned bytes start scanned s =
    let same : start + (scanned - start) ≡ scanned = omega arith in
    subst (λ (j : ℕ). position_or_len (λ b. eqb b 10) (drop start bytes) ≡ scanned - start + position_or_len (λ b. eqb b 10) (drop j bytes)) same
    (place-skipped bytes start (scanned - start) (omega arith) (λ k d low high. s.no_feed k d low (omega arith)))

-- a position that was found, with k more bytes before it
found-behind : (n m len all k place : ℕ) → cond (ltb n len) (Some n) None ≡ Some place → m ≡ k + n → all ≡ k + len
    → Some (k + place) ≡ cond (ltb m all) (Some m) None
found-behind n m len all k place found p q = grind (arith, nat_tests)

-- nothing is found with k more bytes before
none-behind : (n m len all k : ℕ) → cond (ltb n len) (Some n) None ≡ None → m ≡ k + n → all ≡ k + len
    → cond (ltb m all) (Some m) None ≡ None
none-behind n m len all k none p q = grind (arith, nat_tests)

-- the number of bytes from start on
length-scanned : (bytes : List ℕ) (start scanned : ℕ) → IsScanned bytes start scanned → length (drop start bytes) ≡ scanned - start + length (drop scanned bytes)
length-scanned bytes start scanned s = simp length-drop (omega arith)

-- the position of the first line feed, from its position in the bytes not yet scanned
pub position-from_unscanned : (bytes : List ℕ) (start scanned place : ℕ) → IsScanned bytes start scanned
    → position (λ b. eqb b 10) (drop scanned bytes) ≡ Some place → Some (scanned - start + place) ≡ position (λ b. eqb b 10) (drop start bytes)
position-from_unscanned bytes start scanned place s found =
    found-behind _ _ _ _ _ place found (place-scanned bytes start scanned s) (length-scanned bytes start scanned s)

-- there is no line feed if the bytes not yet scanned have none
pub none-from_unscanned : (bytes : List ℕ) (start scanned : ℕ) → IsScanned bytes start scanned
    → position (λ b. eqb b 10) (drop scanned bytes) ≡ None → position (λ b. eqb b 10) (drop start bytes) ≡ None
none-from_unscanned bytes start scanned s none =
    none-behind _ _ _ _ _ none (place-scanned bytes start scanned s) (length-scanned bytes start scanned s)

-- a search that finds nothing reaches the end
pub length-none : (n len : ℕ) → cond (ltb n len) (Some n) None ≡ None → len ≤ n
length-none n len none = grind (arith, nat_tests)

-- if the buffer has no line feed, all of it is scanned, whatever follows
pub IsScanned-from_none : (bytes view more : List ℕ) (n : ℕ) → bytes ≡ view ++ more → n ≡ length view → position (λ b. eqb b 10) view ≡ None → IsScanned bytes 0 n
IsScanned-from_none bytes view more n split size none =
    let far = length-none _ _ none in
    record {
      ordered = omega arith;
      in_bounds = rw split (simp length-append (omega arith));
      no_feed = λ k d low high.
          let inside : k < length view = omega arith in
          rw (split, get_or-append view more d k inside) (fails _ (fails_before_first (λ b. eqb b 10) view k d (omega arith)));
    }
