-- An input has one result, since by the grammar it is at most one list.
use Rattle.std.proofs.Common.{◌≡◌, ℕ, List, Option, Some, None, Result, Ok, Err, inl, inr, sym, ap, ◌∙◌}
use Rattle.std.specs.Str.{chars}
use Rattle.cookie_words.specs.Moments.{Moment}
use Rattle.cookie_forms.specs.FromJson.{all_with_parsed_expiry}
use Rattle.cookie_forms.specs.Saved.{Parts}
use Rattle.cookie_forms.specs.declared.error.SavedError.{SavedError}
use Rattle.cookie_ron.specs.Grammar.{IsList}
use Rattle.cookie_ron.specs.ParsedRon.{RonParsesTo}

module _ (one : (parts others : List (Parts (List ℕ))) (text : List ℕ) → IsList parts text → IsList others text → parts ≡ others) where
  -- if an input is two lists, their expiries are parsed alike
  same_moments : (text : List ℕ) (parts others : List (Parts (List ℕ))) (a b : Option (List (Parts Moment)))
      → IsList parts (chars text) → all_with_parsed_expiry parts ≡ a → IsList others (chars text) → all_with_parsed_expiry others ≡ b → a ≡ b
  same_moments text parts others a b is reads are read =
      sym reads ∙ ap all_with_parsed_expiry (one parts others (chars text) is are) ∙ read

  pub one_result : (text : List ℕ) (outcome other : Result (List (Parts Moment)) SavedError) → RonParsesTo text outcome → RonParsesTo text other
      → outcome ≡ other
  one_result text (Ok list) (Ok lists) (parts, is, reads) (others, are, read) =
      let some = same_moments text parts others (Some list) (Some lists) is reads are read in
      let same : list ≡ lists = cc in
      ap Ok same
  one_result text (Ok list) (Err fault) (parts, is, reads) (inl (ron, none)) = absurd (none parts is)
  one_result text (Ok list) (Err fault) (parts, is, reads) (inr (moment, others, are, none)) =
      let clash = same_moments text parts others (Some list) None is reads are none in absurd (cc)
  one_result text (Err fault) (Ok list) (inl (ron, none)) (parts, is, reads) = absurd (none parts is)
  one_result text (Err fault) (Ok list) (inr (moment, others, are, none)) (parts, is, reads) =
      let clash = same_moments text parts others (Some list) None is reads are none in absurd (cc)
  one_result text (Err fault) (Err faults) (inl (ron, none)) (inl (rons, nones)) = ap Err (ron ∙ sym rons)
  one_result text (Err fault) (Err faults) (inl (ron, none)) (inr (moment, others, are, no_moment)) = absurd (none others are)
  one_result text (Err fault) (Err faults) (inr (moment, others, are, no_moment)) (inl (ron, none)) = absurd (none others are)
  one_result text (Err fault) (Err faults) (inr (moment, parts, is, none)) (inr (moments, others, are, nones)) = ap Err (moment ∙ sym moments)
