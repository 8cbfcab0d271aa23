-- The progress of a script: the lines that were run, the bytes read ahead, and the rest of the input.
use Rattle.std.proofs.Common.{◌≡◌, ◌≢◌, ℕ, ◌+◌, cond, eqb, ne_eqb, subst, List, [], ◌∷◌, ◌++◌, Option, Some, None, IfSome, length, take, drop, position, refl, sym, ap, ◌∙◌, append_assoc, append-nil}
use Rattle.std.specs.Io.KnownBytes.{Appends, IsAtEnd, Keeps, prepend_known}
use Rattle.std.specs.Str.Lines.{lines, lines_of_parts, strip_carriage_return}
use Rattle.cookie_device.specs.Device.{AppendsPrefix, Sends}
use Rattle.cookie_device.specs.LineBuffers.{EndsLine, IsLastLine}
use Rattle.cookie_device.proofs.Sending.{nothing_part, nothing_put}
use Rattle.cookie_store.specs.Contents.{Contents}
use Rattle.cookie_script.specs.Progress.{AreRead}
use Rattle.cookie_script.specs.Script.{State, start, run_line, output_of}
use Rattle.cookie_script.proofs.HasRunLines.{HasRunLines, gathered_sent, next_line_run, part_sent}
use Rattle.cookie_script.proofs.WholeLines.{WholeLines, line_cut, no_lines, one_more}

-- whole lines were consumed and run; the bytes read ahead and the rest of the source are still to be run
pub record Progress (store : Contents) (input : List ℕ) (old : Option (List ℕ)) (before at_hand : List ℕ) (rest : Option (List ℕ)) (state : State) (new : Option (List ℕ)) (buffered : List ℕ) : Type 0 where
  pub gone : List ℕ
  pub left : List ℕ
  pub passed : List (List ℕ)
  pub cut : input ≡ gone ++ left
  pub known : prepend_known at_hand rest ≡ Some left
  pub whole : WholeLines gone passed
  pub has_run : HasRunLines store input old before passed (lines left) state new buffered

-- at first all of the input is left
pub begun : (store : Contents) (rest : Option (List ℕ)) (a : Option (List ℕ)) (before : List ℕ)
    → IfSome rest (λ input. Progress store input a before [] rest (start store) a before)
begun store None a before = tt
begun store (Some input) a before = record {
  gone = [];
  left = input;
  passed = [];
  cut = refl;
  known = refl;
  whole = no_lines;
  has_run = record { split = refl; state_is = refl; sends = nothing_put a before };
}

-- the lines that are left, if a line was found in the bytes read ahead
left_lines : (at_hand left : List ℕ) (rest : Option (List ℕ)) (end : ℕ) → prepend_known at_hand rest ≡ Some left → EndsLine at_hand end
    → (more : List ℕ) × (rest ≡ Some more) × (lines left ≡ strip_carriage_return (take end at_hand) ∷ lines (drop (end + 1) at_hand ++ more))
left_lines at_hand left None end known ends = cc
left_lines at_hand left (Some more) end known ends =
    let same : at_hand ++ more ≡ left = cc in
    (more, refl, ap lines (sym same) ∙ ends more)

kept_known : (a b : Option (List ℕ)) (left : List ℕ) → a ≡ Some left → Keeps a b → b ≡ Some left
kept_known None b left known kept = cc
kept_known (Some x) None left known kept = absurd kept
kept_known (Some x) (Some y) left known kept = ap Some kept ∙ known

-- at the end of the source, the bytes read ahead are all that is left
all_at_hand : (at_hand left : List ℕ) (rest : Option (List ℕ)) → prepend_known at_hand rest ≡ Some left → IsAtEnd rest → left ≡ at_hand
all_at_hand at_hand left None known end = cc
all_at_hand at_hand left (Some more) known end =
    let same : at_hand ++ more ≡ left = cc in
    sym same ∙ ap (λ xs. at_hand ++ xs) end ∙ append-nil at_hand

nothing_last : (n : ℕ) (x : List ℕ) → n ≡ 0 → cond (eqb n 0) [] (x ∷ []) ≡ []
nothing_last n x e = rw e

something_last : (n : ℕ) (x : List ℕ) → n ≢ 0 → cond (eqb n 0) [] (x ∷ []) ≡ x ∷ []
something_last n x h = rw (ne_eqb n 0 h)

-- the input up to the end of the line that was found, and what follows it
cut_behind_line : (input gone at_hand left more : List ℕ) (rest : Option (List ℕ)) (end : ℕ) → input ≡ gone ++ left
    → prepend_known at_hand rest ≡ Some left → rest ≡ Some more → position (λ b. eqb b 10) at_hand ≡ Some end
    → input ≡ (gone ++ (take end at_hand ++ 10 ∷ [])) ++ (drop (end + 1) at_hand ++ more)
cut_behind_line input gone at_hand left more rest end cut known is found =
    let piece = take end at_hand ++ 10 ∷ [] in
    let behind = drop (end + 1) at_hand in
    let same : prepend_known at_hand (Some more) ≡ Some left = ap (prepend_known at_hand) (sym is) ∙ known in
    let joined : at_hand ++ more ≡ left = cc in
    cut ∙ ap (λ xs. gone ++ xs) (sym joined ∙ ap (λ xs. xs ++ more) (line_cut at_hand end found) ∙ append_assoc piece behind more)
    ∙ sym (append_assoc gone piece (behind ++ more))

-- what was read: the bytes that were consumed, and those read ahead
cut_unread : (input gone at_hand left : List ℕ) (passed : List (List ℕ)) (rest : Option (List ℕ)) → input ≡ gone ++ left
    → prepend_known at_hand rest ≡ Some left → WholeLines gone passed → position (λ b. eqb b 10) at_hand ≡ None → AreRead input rest passed
cut_unread input gone at_hand left passed None cut known whole none = cc
cut_unread input gone at_hand left passed (Some more) cut known whole none =
    let joined : at_hand ++ more ≡ left = cc in (
      gone ++ at_hand,
      more,
      refl,
      cut ∙ ap (λ xs. gone ++ xs) (sym joined) ∙ sym (append_assoc gone at_hand more),
      sym (append-nil passed) ∙ sym (whole.are []) ∙ ap lines (append-nil gone ∙ sym (whole.cut at_hand none)),
    )

module _ {store : Contents} {input : List ℕ} {old : Option (List ℕ)} {before : List ℕ} {rest : Option (List ℕ)} {state : State} {new : Option (List ℕ)} {g : List ℕ} where
  -- the line that was found in the bytes read ahead comes next
  pub found : (at_hand line : List ℕ) (end : ℕ) (p : Progress store input old before at_hand rest state new g) → EndsLine at_hand end
      → line ≡ strip_carriage_return (take end at_hand)
      → (more : List ℕ) × (rest ≡ Some more) × HasRunLines store input old before p.passed (line ∷ lines (drop (end + 1) at_hand ++ more)) state new g
  found at_hand line end p ends is =
      let (more, known, ls) = left_lines at_hand p.left rest end p.known ends in (
        more,
        known,
        subst (λ next. HasRunLines store input old before p.passed next state new g) (ls ∙ ap (λ l. l ∷ lines (drop (end + 1) at_hand ++ more)) (sym is)) p.has_run,
      )

  -- it was run
  pub line_run : (at_hand line : List ℕ) (end : ℕ) (then : Option (List ℕ)) (h : List ℕ) → Progress store input old before at_hand rest state new g
      → position (λ b. eqb b 10) at_hand ≡ Some end → EndsLine at_hand end → line ≡ strip_carriage_return (take end at_hand)
      → Sends new then (g ++ (run_line line state).text) h → Progress store input old before (drop (end + 1) at_hand) rest (run_line line state).state then h
  line_run at_hand line end then h p first ends is sends =
      let (more, known, next) = found at_hand line end p ends is in
      record {
        gone = p.gone ++ (take end at_hand ++ 10 ∷ []);
        left = drop (end + 1) at_hand ++ more;
        passed = p.passed ++ line ∷ [];
        cut = cut_behind_line input p.gone at_hand p.left more rest end p.cut p.known known first;
        known = ap (prepend_known (drop (end + 1) at_hand)) known;
        whole =
            subst (λ (l : List ℕ). WholeLines (p.gone ++ (take end at_hand ++ 10 ∷ [])) (p.passed ++ l ∷ [])) (sym is)
            (one_more p.gone at_hand p.passed end p.whole first);
        has_run = next_line_run p.passed line (lines (drop (end + 1) at_hand ++ more)) state new then g h next sends;
      }

  -- the buffered bytes are written
  pub flushed : (at_hand : List ℕ) (then : Option (List ℕ)) (h : List ℕ) → Progress store input old before at_hand rest state new g → Appends new then g
      → h ≡ [] → Progress store input old before at_hand rest state then h
  flushed at_hand then h p out empty = record {
    gone = p.gone;
    left = p.left;
    passed = p.passed;
    cut = p.cut;
    known = p.known;
    whole = p.whole;
    has_run = gathered_sent p.passed (lines p.left) state new then g h p.has_run out empty;
  }

  -- more bytes are read ahead
  pub read_ahead : (at_hand more : List ℕ) (less : Option (List ℕ)) → Progress store input old before at_hand rest state new g
      → Keeps (prepend_known at_hand rest) (prepend_known more less) → Progress store input old before more less state new g
  read_ahead at_hand more less p kept = record {
    gone = p.gone;
    left = p.left;
    passed = p.passed;
    cut = p.cut;
    known = kept_known (prepend_known at_hand rest) (prepend_known more less) p.left p.known kept;
    whole = p.whole;
    has_run = p.has_run;
  }

  -- at the end of the source the bytes read ahead are the last line, unless there are none
  last_lines : (at_hand : List ℕ) (p : Progress store input old before at_hand rest state new g) → IsAtEnd rest → IsLastLine at_hand
      → HasRunLines store input old before p.passed (lines_of_parts (at_hand ∷ [])) state new g
  last_lines at_hand p end one =
      subst (λ next. HasRunLines store input old before p.passed next state new g) (ap lines (all_at_hand at_hand p.left rest p.known end) ∙ one) p.has_run

  -- no line is left to run
  pub no_line_left : (at_hand : List ℕ) (p : Progress store input old before at_hand rest state new g) → IsAtEnd rest → IsLastLine at_hand
      → length at_hand ≡ 0 → HasRunLines store input old before p.passed [] state new g
  no_line_left at_hand p end one empty =
      subst (λ next. HasRunLines store input old before p.passed next state new g) (nothing_last (length at_hand) at_hand empty) (last_lines at_hand p end one)

  -- one line is left to run
  pub one_line_left : (at_hand line : List ℕ) (p : Progress store input old before at_hand rest state new g) → IsAtEnd rest → IsLastLine at_hand
      → length at_hand ≢ 0 → line ≡ at_hand → HasRunLines store input old before p.passed (line ∷ []) state new g
  one_line_left at_hand line p end one some is =
      subst (λ next. HasRunLines store input old before p.passed next state new g)
      (something_last (length at_hand) at_hand some ∙ ap (λ l. l ∷ []) (sym is)) (last_lines at_hand p end one)

  -- if a prefix of the buffered bytes is written, a prefix of the output was written
  pub flush_part : (at_hand : List ℕ) (then : Option (List ℕ)) → Progress store input old before at_hand rest state new g → AppendsPrefix new then g
      → AppendsPrefix old then (before ++ output_of store input)
  flush_part at_hand then p part = part_sent p.passed (lines p.left) state new then g p.has_run part

  -- what was written so far is a prefix of the output
  pub part_so_far : (at_hand : List ℕ) → Progress store input old before at_hand rest state new g → AppendsPrefix old new (before ++ output_of store input)
  part_so_far at_hand p = part_sent p.passed (lines p.left) state new new g p.has_run (nothing_part new g)

  -- if no line feed was read ahead, the lines that were run are those that were read
  pub are_read : (at_hand : List ℕ) (p : Progress store input old before at_hand rest state new g) → position (λ b. eqb b 10) at_hand ≡ None
      → AreRead input rest p.passed
  are_read at_hand p none = cut_unread input p.gone at_hand p.left p.passed rest p.cut p.known p.whole none
