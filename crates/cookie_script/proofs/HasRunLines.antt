-- The lines of a script that were run, and what was written of their output.
use Rattle.std.proofs.Common.{◌≡◌, ℕ, List, [], ◌∷◌, ◌++◌, Option, refl, sym, ap, subst, ◌∙◌, append_assoc, append-nil}
use Rattle.std.specs.Io.KnownBytes.{Appends}
use Rattle.std.specs.Str.Lines.{lines}
use Rattle.std.proofs.KnownBytes.{Appends-trans}
use Rattle.cookie_device.specs.Device.{AppendsPrefix, Sends}
use Rattle.cookie_device.proofs.Sending.{part_longer, part_of_rest, part_then, put_then}
use Rattle.cookie_store.specs.Contents.{Contents}
use Rattle.cookie_script.specs.Progress.{WritesOutputOfFirstLines}
use Rattle.cookie_script.specs.Script.{State, start, run_line, outputs, output_of}

-- the state after the lines
abbrev pub state_after : List (List ℕ) → State → State
state_after [] state = state
state_after (line ∷ more) state = state_after more (run_line line state).state

-- the output of some lines and of the lines after them
outputs-append : (passed more : List (List ℕ)) (state : State)
    → outputs (passed ++ more) state ≡ outputs passed state ++ outputs more (state_after passed state)
outputs-append [] more state = refl
outputs-append (line ∷ passed) more state =
    let next = (run_line line state).state in
    ap (λ text. (run_line line state).text ++ text) (outputs-append passed more next)
    ∙ sym (append_assoc (run_line line state).text (outputs passed next) (outputs more (state_after passed next)))

-- the state after some lines and the lines after them
state_after-append : (passed more : List (List ℕ)) (state : State) → state_after (passed ++ more) state ≡ state_after more (state_after passed state)
state_after-append [] more state = refl
state_after-append (line ∷ passed) more state = state_after-append passed more (run_line line state).state

-- The lines `passed` were run, and `more` are still to be run, from this state. What was buffered before and
-- their output were written, except what is buffered now.
pub record HasRunLines (store : Contents) (input : List ℕ) (old : Option (List ℕ)) (before : List ℕ) (passed more : List (List ℕ)) (state : State) (new : Option (List ℕ)) (buffered : List ℕ) : Type 0 where
  pub split : lines input ≡ passed ++ more
  pub state_is : state ≡ state_after passed (start store)
  pub sends : Sends old new (before ++ outputs passed (start store)) buffered

-- the output is that of some first lines, followed by that of the others
split_output : (store : Contents) (input : List ℕ) (passed more : List (List ℕ)) → lines input ≡ passed ++ more
    → output_of store input ≡ outputs passed (start store) ++ outputs more (state_after passed (start store))
split_output store input passed more split =
    ap (λ ls. outputs ls (start store)) split ∙ outputs-append passed more (start store)

module _ {store : Contents} {input : List ℕ} {old : Option (List ℕ)} {before : List ℕ} (passed : List (List ℕ)) where
  -- the output is that of the lines so far, followed by that of the remaining lines
  all_output : (more : List (List ℕ)) (state : State) (new : Option (List ℕ)) (g : List ℕ) (a : HasRunLines store input old before passed more state new g)
      → output_of store input ≡ outputs passed (start store) ++ outputs more state
  all_output more state new g a =
      split_output store input passed more a.split ∙ ap (λ s. outputs passed (start store) ++ outputs more s) (sym a.state_is)

  -- the next line was run
  pub next_line_run : (line : List ℕ) (more : List (List ℕ)) (state : State) (new then : Option (List ℕ)) (g h : List ℕ)
      → HasRunLines store input old before passed (line ∷ more) state new g → Sends new then (g ++ (run_line line state).text) h
      → HasRunLines store input old before (passed ++ line ∷ []) more (run_line line state).state then h
  next_line_run line more state new then g h a sends =
      let done = outputs passed (start store) in
      let longer : outputs (passed ++ line ∷ []) (start store) ≡ done ++ (run_line line state).text
      = outputs-append passed (line ∷ []) (start store) ∙ ap (λ s. done ++ outputs (line ∷ []) s) (sym a.state_is)
      ∙ ap (λ text. done ++ text) (append-nil (run_line line state).text) in
      record {
        split = a.split ∙ sym (append_assoc passed (line ∷ []) more);
        state_is = ap (λ s. (run_line line s).state) a.state_is ∙ sym (state_after-append passed (line ∷ []) (start store));
        sends =
            subst (λ (text : List ℕ). Sends old then (before ++ text) h) (sym longer)
            (put_then old new then before done (run_line line state).text g h a.sends sends);
      }

  -- if a prefix of the buffered bytes is written, a prefix of the output was written
  pub part_sent : (more : List (List ℕ)) (state : State) (new then : Option (List ℕ)) (g : List ℕ)
      → HasRunLines store input old before passed more state new g → AppendsPrefix new then g → AppendsPrefix old then (before ++ output_of store input)
  part_sent more state new then g a part =
      let done = outputs passed (start store) in
      subst (λ (text : List ℕ). AppendsPrefix old then (before ++ text)) (sym (all_output more state new g a))
      (part_longer old then before done (outputs more state) (part_of_rest old new then (before ++ done) g a.sends part))

  -- if a prefix of the output of the next line is written, a prefix of the output was written
  pub next_part : (line : List ℕ) (more : List (List ℕ)) (state : State) (new then : Option (List ℕ)) (g : List ℕ)
      → HasRunLines store input old before passed (line ∷ more) state new g → AppendsPrefix new then (g ++ (run_line line state).text)
      → AppendsPrefix old then (before ++ output_of store input)
  next_part line more state new then g a part =
      let done = outputs passed (start store) in
      let others = outputs more (run_line line state).state in
      subst (λ (text : List ℕ). AppendsPrefix old then (before ++ text))
      (append_assoc done (run_line line state).text others ∙ sym (all_output (line ∷ more) state new g a))
      (part_longer old then before (done ++ (run_line line state).text) others
      (part_then old new then before done (run_line line state).text g a.sends part))

  -- all lines were run
  pub all_sent : (state : State) (new : Option (List ℕ)) (g : List ℕ)
      → HasRunLines store input old before passed [] state new g → Sends old new (before ++ output_of store input) g
  all_sent state new g a =
      subst (λ (text : List ℕ). Sends old new (before ++ text) g)
      (sym (all_output [] state new g a ∙ append-nil (outputs passed (start store)))) a.sends

  -- the buffered bytes are written
  pub gathered_sent : (more : List (List ℕ)) (state : State) (new then : Option (List ℕ)) (g h : List ℕ)
      → HasRunLines store input old before passed more state new g → Appends new then g → h ≡ [] → HasRunLines store input old before passed more state then h
  gathered_sent more state new then g h a whole empty = record {
    split = a.split;
    state_is = a.state_is;
    sends = record {
      sent = a.sends.sent ++ g;
      split = a.sends.split ∙ sym (append-nil (a.sends.sent ++ g)) ∙ ap (λ xs. (a.sends.sent ++ g) ++ xs) (sym empty);
      appended = Appends-trans old new then a.sends.sent g a.sends.appended whole;
    };
  }

-- a text of which nothing is buffered was written
pub sent_all : (a b : Option (List ℕ)) (text g : List ℕ) → Sends a b text g → g ≡ [] → Appends a b text
sent_all a b text g sends empty =
    subst (Appends a b) (sym (sends.split ∙ ap (λ rest. sends.sent ++ rest) empty ∙ append-nil sends.sent)) sends.appended

-- the output of some first lines was written except the rest, then a prefix of the rest: a prefix of the output
-- was written
pub first_part : (store : Contents) (input : List ℕ) (Holds : List (List ℕ) → List (List ℕ) → Type 0) (a b c : Option (List ℕ)) (g : List ℕ)
    → WritesOutputOfFirstLines store input Holds (λ text. Sends a b text g) → AppendsPrefix b c g → AppendsPrefix a c (output_of store input)
first_part store input Holds a b c g (first, more, split, holds, sends) part =
    subst (AppendsPrefix a c) (sym (split_output store input first more split))
    (part_longer a c [] (outputs first (start store)) (outputs more (state_after first (start store)))
    (part_of_rest a b c (outputs first (start store)) g sends part))

-- if all of the rest was written, so was the output of some first lines
pub first_appended : (store : Contents) (input : List ℕ) (Holds : List (List ℕ) → List (List ℕ) → Type 0) (a b c : Option (List ℕ)) (g : List ℕ)
    → WritesOutputOfFirstLines store input Holds (λ text. Sends a b text g) → Appends b c g → WritesOutputOfFirstLines store input Holds (Appends a c)
first_appended store input Holds a b c g (first, more, split, holds, sends) whole =
    (first, more, split, holds, subst (Appends a c) (sym sends.split) (Appends-trans a b c sends.sent g sends.appended whole))
