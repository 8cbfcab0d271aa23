-- Lines of a source that is read in parts, and the cookies loaded from them.
use Rattle.std.proofs.Common.{◌≡◌, ℕ, ◌+◌, true, false, cond, eqb, List, [], ◌∷◌, ◌++◌, Option, Some, None, Result, Ok, Err, IfSome, IfOk, IfErr, IsTrue, inr, length, position, take, drop, refl, sym, ap, ◌∙◌, append_assoc, append-nil, take-append-drop, length-append, min, ◌-◌, ◌^◌, ◌≤◌, arith}
use Rattle.std.specs.Str.{is_utf8}
use Rattle.std.specs.Str.Lines.{lines, lines_of_parts, strip_carriage_return}
use Rattle.std.specs.Io.{StartsWith}
use Rattle.std.specs.Io.KnownBytes.{IsAtEnd, Keeps, prepend_known}
use Rattle.cookie_device.specs.Device.{SourceState}
use Rattle.cookie_device.specs.LineBuffers.{EndsLine, IsLastLine}
use Rattle.cookie_parts.specs.Cookie.{Row}
use Rattle.cookie_parts.specs.declared.error.Error.{Error}
use Rattle.cookie_serde.specs.Selections.{built_from}
use Rattle.cookie_serde.specs.declared.which.Which.{Which}
use Rattle.cookie_serde.specs.declared.which.Which.TheVariants.{Persistent, Unexpired, All}
use Rattle.cookie_serde.specs.LoadError.{number_behind}
use Rattle.cookie_serde.specs.Loading.{AreCookies, ParsesToCookie, RejectsLine, StopsWithinLine, InsertsLine}
use Rattle.cookie_laws.specs.Rows.{RowsInOrder}

-- no rows are built from no cookies
pub built_none : (which : Which) → record { rows = []; created = [] } ≡ built_from which []
built_none (Persistent now) = refl
built_none (Unexpired now) = refl
built_none All = refl

-- passing bytes moves them from the buffer to those already passed
passed_over : (prefix at_hand behind more : List ℕ) (count : ℕ) → behind ≡ drop count at_hand
    → prefix ++ take count at_hand ++ (behind ++ more) ≡ prefix ++ (at_hand ++ more)
passed_over prefix at_hand behind more count is =
    append_assoc prefix (take count at_hand) (behind ++ more)
    ∙ ap (λ xs. prefix ++ xs) (sym (append_assoc (take count at_hand) behind more)
    ∙ ap (λ xs. xs ++ more) (ap (λ xs. take count at_hand ++ xs) is ∙ take-append-drop count at_hand))

-- bytes that begin with the old ones are the old ones and those after them
grown : (old new : List ℕ) → StartsWith new old → new ≡ old ++ drop (length old) new
grown old new starts = sym (take-append-drop (length old) new) ∙ ap (λ xs. xs ++ drop (length old) new) starts

module _ (Parses : List ℕ → Result Row Error → Type 0) where
  -- a cookie that the function returns for a line is one that it may return
  pub created : (line : List ℕ) (expected : Result Row Error) → IsTrue (is_utf8 line) → Parses line expected
      → IfOk expected (λ cookie. ParsesToCookie Parses line cookie)
  created line (Ok cookie) valid answers = (valid, answers)
  created line (Err error) valid answers = tt

  -- and if it returns an error, the line is rejected
  pub refused : (line : List ℕ) (expected : Result Row Error) → IsTrue (is_utf8 line) → Parses line expected
      → IfErr expected (λ error. RejectsLine Parses error line)
  refused line (Ok cookie) valid answers = tt
  refused line (Err error) valid answers = inr (valid, answers)

  -- each line that is loaded adds one cookie
  pub taken_built : (line : List ℕ) (which : Which) (old new : RowsInOrder) (cookies : List Row)
      → InsertsLine Parses line which old new → old ≡ built_from which cookies
      → (cookie : Row) × ParsesToCookie Parses line cookie × (new ≡ built_from which (cookies ++ cookie ∷ []))
  taken_built line which old new cookies (cookie, parses_it, taken) are_built = (
    cookie,
    parses_it,
    taken cookies are_built,
  )

-- `prefix` has been passed, with the lines `done`; `at_hand` is in the buffer, and `left` is still in the source. The lines `done` do
-- not depend on what follows the buffer.
pub record Loaded (text at_hand : List ℕ) (rest : Option (List ℕ)) (done : List (List ℕ)) : Type 0 where
  pub prefix : List ℕ
  pub left : List ℕ
  pub known : rest ≡ Some left
  pub whole : text ≡ prefix ++ (at_hand ++ left)
  pub split : (more : List ℕ) → lines (prefix ++ (at_hand ++ more)) ≡ done ++ lines (at_hand ++ more)

-- at the beginning all bytes are left
pub begun : (rest : Option (List ℕ)) → IfSome rest (λ text. Loaded text [] rest [])
begun None = tt
begun (Some text) = record { prefix = []; left = text; known = refl; whole = refl; split = λ more. refl }

-- the lines of the source, once the next line is in the buffer
next_line : (text at_hand line : List ℕ) (rest : Option (List ℕ)) (done : List (List ℕ)) (end : ℕ)
    (l : Loaded text at_hand rest done) → EndsLine at_hand end → line ≡ strip_carriage_return (take end at_hand)
    → (more : List ℕ) → lines (l.prefix ++ (at_hand ++ more)) ≡ done ++ line ∷ lines (drop (end + 1) at_hand ++ more)
next_line text at_hand line rest done end l ends is more =
    let others = lines (drop (end + 1) at_hand ++ more) in
    l.split more ∙ ap (λ ls. done ++ ls) (ends more ∙ ap (λ x. x ∷ others) (sym is))

-- that line is the next line of the source
pub next_found : (text at_hand line : List ℕ) (rest : Option (List ℕ)) (done : List (List ℕ)) (end : ℕ)
    → Loaded text at_hand rest done → EndsLine at_hand end → line ≡ strip_carriage_return (take end at_hand)
    → (after : List (List ℕ)) × (lines text ≡ done ++ line ∷ after)
next_found text at_hand line rest done end l ends is = (
  lines (drop (end + 1) at_hand ++ l.left),
  ap lines l.whole ∙ next_line text at_hand line rest done end l ends is l.left,
)

-- passing that line
pub passed : (text at_hand behind line : List ℕ) (rest : Option (List ℕ)) (done : List (List ℕ)) (end : ℕ)
    → Loaded text at_hand rest done → EndsLine at_hand end → line ≡ strip_carriage_return (take end at_hand)
    → behind ≡ drop (end + 1) at_hand → Loaded text behind rest (done ++ line ∷ [])
passed text at_hand behind line rest done end l ends is stands =
    record {
      prefix = l.prefix ++ take (end + 1) at_hand;
      left = l.left;
      known = l.known;
      whole = l.whole ∙ sym (passed_over l.prefix at_hand behind l.left (end + 1) stands);
      split = λ more.
          ap lines (passed_over l.prefix at_hand behind more (end + 1) stands)
          ∙ next_line text at_hand line rest done end l ends is more
          ∙ ap (λ xs. done ++ line ∷ lines (xs ++ more)) (sym stands)
          ∙ sym (append_assoc done (line ∷ []) (lines (behind ++ more)));
    }

-- after a read
pub filled : (text old new : List ℕ) (rest less : Option (List ℕ)) (done : List (List ℕ))
    → Loaded text old rest done → Keeps (prepend_known old rest) (prepend_known new less) → StartsWith new old
    → IfSome rest (λ left. (more : List ℕ) × (less ≡ Some more) × (length left + length old ≡ length more + length new))
    → Loaded text new less done
filled text old new rest less done l kept starts moved =
    let (more, is, count) = rw l.known at moved in
    let same : new ++ more ≡ old ++ l.left = rw (l.known, is) at kept in
    record {
      prefix = l.prefix;
      left = more;
      known = is;
      whole = l.whole ∙ ap (λ xs. l.prefix ++ xs) (sym same);
      split = λ xs.
          let longer = ap (λ bs. bs ++ xs) (grown old new starts) ∙ append_assoc old (drop (length old) new) xs in
          ap (λ bs. lines (l.prefix ++ bs)) longer ∙ l.split (drop (length old) new ++ xs) ∙ ap (λ bs. done ++ lines bs) (sym longer);
    }

-- all bytes were read: the lines are those passed, and the last bytes if there are any
abbrev pub IsEnded : List ℕ → List (List ℕ) → List ℕ → Type 0
IsEnded last done text = lines text ≡ done ++ lines_of_parts (last ∷ [])

-- if the source is at its end and the buffer has no line feed
pub ended : (text last : List ℕ) (rest : Option (List ℕ)) (done : List (List ℕ))
    → Loaded text last rest done → IsAtEnd rest → IsLastLine last → IsEnded last done text
ended text last rest done l end one =
    let none : l.left ≡ [] = rw l.known at end in
    let behind = ap (λ xs. last ++ xs) none ∙ append-nil last in
    ap lines l.whole ∙ l.split l.left ∙ ap (λ ls. done ++ ls) (ap lines behind ∙ one)

-- without last bytes all lines were passed
pub finished : (text last : List ℕ) (done : List (List ℕ)) → IsEnded last done text → true ≡ eqb (length last) 0 → done ≡ lines text
finished text last done is empty =
    let none = ap (λ test. cond test [] (last ∷ [])) (sym empty) in sym (is ∙ ap (λ ls. done ++ ls) none ∙ append-nil done)

-- otherwise they are the last line
pub last_found : (text last : List ℕ) (done : List (List ℕ)) → IsEnded last done text → false ≡ eqb (length last) 0
    → lines text ≡ done ++ last ∷ []
last_found text last done is some = is ∙ ap (λ ls. done ++ ls) (ap (λ test. cond test [] (last ∷ [])) (sym some))

-- without a line feed in the buffer, reading is within a line; each successful read gave at least a byte
pub within : (Parses : List ℕ → Result Row Error → Type 0) (text at_hand : List ℕ) (done : List (List ℕ)) (cookies : List Row)
    (old new : SourceState) → AreCookies Parses done cookies → Loaded text at_hand new.remaining done
    → IfSome new.remaining (λ left. old.reads_left + length left ≤ new.reads_left + length text)
    → position (λ b. eqb b 10) at_hand ≡ None → StopsWithinLine Parses old new text
within Parses text at_hand done cookies old new are_made l brought none =
    let whole = append-nil at_hand in
    let split = ap (λ xs. lines (l.prefix ++ xs)) (sym whole) ∙ l.split [] ∙ ap (λ xs. done ++ lines xs) whole in
    let is = l.whole ∙ sym (append_assoc l.prefix at_hand l.left) in
    let count = ap length is ∙ length-append (l.prefix ++ at_hand) l.left in
    let each_brought : old.reads_left + length l.left ≤ new.reads_left + length text = rw l.known at brought in (
      l.prefix ++ at_hand,
      l.left,
      is,
      l.known,
      (l.prefix, at_hand, done, cookies, refl, none, split, are_made),
      omega arith,
    )

-- the number after one more line
pub number_more : (done : List (List ℕ)) (line : List ℕ) → min (number_behind done + 1) (2 ^ 64 - 1) ≡ number_behind (done ++ line ∷ [])
number_more done line = let more = length-append done (line ∷ []) in grind (arith, more)

-- a failed read gave nothing, and did not use up a read
pub not_read : (old new text : List ℕ) (rest less : Option (List ℕ)) (reads_left reads_left' reads_left'' : ℕ)
    → (left : List ℕ) × (rest ≡ Some left) × (reads_left + length left ≤ reads_left' + length text)
    → IfSome rest (λ left. (more : List ℕ) × (less ≡ Some more) × (length left + length old ≡ length more + length new))
    → new ≡ old → reads_left'' ≡ reads_left'
    → IfSome less (λ left. reads_left + length left ≤ reads_left'' + length text)
not_read old new text rest less reads_left reads_left' reads_left'' (left, known, count) moved same as_many =
    let (more, is, lengths) = rw known at moved in
    let stayed = ap length same in
    rw is (omega arith)
