-- Names that are none of the known ones.
use Rattle.std.proofs.Common.{◌≡◌, ℕ, List, None, codes, false}
use Rattle.std.specs.Str.{bytes_eq}
use Rattle.std.proofs.lemmas.Bool.{false_from_ne_true}
use Rattle.std.proofs.lemmas.Slice.Eq.{bytes_eq-Decides}
use Rattle.cookies.specs.FileNames.{input_name, output_name}
use Rattle.cookies.specs.FileFormats.{format_of_name}

-- different strings compare as different
pub differ : (xs ys : List ℕ) → (xs ≡ ys → ⊥) → bytes_eq xs ys ≡ false
differ xs ys unlike = false_from_ne_true _ (λ same. unlike ((bytes_eq-Decides xs ys).0 same))

-- any other name is no format
pub no_format : (name : List ℕ) → (name ≡ codes "json" → ⊥) → (name ≡ codes "jsonl" → ⊥) → (name ≡ codes "ron" → ⊥)
    → (name ≡ codes "txt" → ⊥) → None ≡ format_of_name name
unfolding format_of_name
no_format name not_json not_jsonl not_ron not_txt =
    rw (
      differ name (codes "json") not_json,
      differ name (codes "jsonl") not_jsonl,
      differ name (codes "ron") not_ron,
      differ name (codes "txt") not_txt,
    )

-- any other name is that of a file that is read
pub read_file : (name : List ℕ) → (name ≡ codes "-" → ⊥) → name ≡ input_name name
unfolding input_name
read_file name not_dash = rw (differ name (codes "-") not_dash)

-- any other name is that of a file that is written
pub written_file : (name : List ℕ) → (name ≡ codes "-" → ⊥) → name ≡ output_name name
unfolding output_name
written_file name not_dash = rw (differ name (codes "-") not_dash)
