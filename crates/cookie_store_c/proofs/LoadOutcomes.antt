-- The outcome of loading a string in a format.
use Rattle.std.proofs.Common.{◌≡◌, ◌⊎◌, inl, inr, ⊎_elim, ℕ, Bool, false, List, [], Option, Some, None, Ok, Err, ap, refl, subst, sym, ◌∙◌}
use Rattle.cookie_netscape.specs.Files.{FailsToRead}
use Rattle.cookie_netscape.specs.declared.error.NetscapeError.{NetscapeError}
use Rattle.cookie_netscape.specs.declared.error.NetscapeError.TheVariants as File
use Rattle.cookie_parts.specs.declared.error.Error.{Error}
use Rattle.cookie_laws.specs.Contents.{Contents, contents_of, rows_in_order}
use Rattle.cookie_laws.specs.Rows.{RowsInOrder}
use Rattle.cookie_serde.specs.FormatErrors.{format_error_of}
use Rattle.cookie_serde.specs.Formats.{BuildsAs, FailsToParseAs}
use Rattle.cookie_serde.specs.JsonLists.{JsonListParsesTo}
use Rattle.cookie_serde.specs.SavedLists.{FailsAtText}
use Rattle.cookie_serde.specs.RonLists.{RonListParsesTo}
use Rattle.cookie_serde.specs.Selections.{is_selected}
use Rattle.cookie_serde.specs.declared.format.Format.{Format}
use Rattle.cookie_serde.specs.declared.format.Format.TheVariants.{Json, Ron, Netscape}
use Rattle.cookie_serde.specs.declared.format_error.FormatError.{FormatError}
use Rattle.cookie_serde.specs.declared.format_error.FormatError.TheVariants as FormatCase
use Rattle.cookie_serde.specs.declared.which.Which.{Which}
use Rattle.cookie_store_c.specs.LoadedStores.{LoadOutcome, LoadsAs, LoadsBy, listed, malformed_line, numbers_of, rejected, reported}
use Rattle.cookie_store_c.specs.Options.{Chosen, view}
use Rattle.cookie_store_c.specs.Statuses.{error_status, format_error_status}
use Rattle.cookie_store_c.specs.declared.options.Options.{Options}
use Rattle.cookie_store_c.specs.declared.status.Status.{Status}
use Rattle.cookie_store_c.specs.declared.status.Status.TheVariants.{NoMemory}

-- a store without a list and a limit is its rows
is_of_rows : (store : Contents) (kept : RowsInOrder) → rows_in_order store ≡ kept → store.suffixes ≡ None → store.limit ≡ None
    → reported store [] ≡ reported (contents_of kept None None) []
is_of_rows store kept same suffixes limit = λ i.
    reported (record { rows = (same i).rows; created = (same i).created; suffixes = suffixes i; limit = limit i }) []

-- no number is that of no line
pub no_line : (line : Option ℕ) → numbers_of line ≡ [] → line ≡ None
no_line None none = refl
no_line (Some line) none = absurd (cc)

module _ (lenient : Bool) (which : Which) (text : List ℕ) where
  -- what is chosen
  abbrev chosen : Format → Chosen
  chosen format = record { format = format; is_lenient = lenient; selects = is_selected which }

  -- a store that was created
  pub loads : (format : Format) (store : Contents) → BuildsAs format text which (rows_in_order store) → store.suffixes ≡ None
      → store.limit ≡ None → LoadsAs format (chosen format) text (reported store [])
  loads Json store (cookies, parsed, kept) suffixes limit =
      is_of_rows store _ kept suffixes limit ∙ ap (listed (chosen Json)) (sym parsed)
  loads Ron store (cookies, parsed, kept) suffixes limit = (Ok cookies, parsed, is_of_rows store _ kept suffixes limit)
  loads Netscape store (rows, parsed, kept) suffixes limit = inl (rows, parsed, is_of_rows store _ kept suffixes limit)

  of_json : (error : Error) → FailsAtText JsonListParsesTo error text
      → LoadsAs Json (chosen Json) text (rejected (error_status error) []) ⊎ (error_status error ≡ NoMemory)
  of_json error (inl (inl is)) = inl (ap (listed (chosen Json)) (sym is))
  of_json error (inl (inr (memory, some))) = inr (ap error_status memory)
  of_json error (inr (memory, cookies, parsed, some)) = inr (ap error_status memory)

  of_ron : (error : Error) → FailsAtText RonListParsesTo error text
      → LoadsAs Ron (chosen Ron) text (rejected (error_status error) []) ⊎ (error_status error ≡ NoMemory)
  of_ron error (inl (inl is)) = inl (Err error, is, refl)
  of_ron error (inl (inr (memory, some))) = inr (ap error_status memory)
  of_ron error (inr (memory, cookies, parsed, some)) = inr (ap error_status memory)

  of_file : (error : NetscapeError) → FailsToRead error text
      → LoadsAs Netscape (chosen Netscape) text
      (rejected (format_error_status (format_error_of error)) (malformed_line (format_error_of error)))
      ⊎ (format_error_status (format_error_of error) ≡ NoMemory)
  of_file (File.BadLine line) first = inl (inr (line, first, refl))
  of_file File.Memory begins = inr refl
  of_file File.Unrepresentable never = absurd never
  of_file File.Io never = absurd never
  of_file File.NotUtf8 never = absurd never

  -- there is no store
  pub fails : (format : Format) (error : FormatError) → FailsToParseAs format error text
      → LoadsAs format (chosen format) text (rejected (format_error_status error) (malformed_line error))
      ⊎ (format_error_status error ≡ NoMemory)
  fails Json error (of_list, is, failed) = rw is (of_json of_list failed)
  fails Ron error (of_list, is, failed) = rw is (of_ron of_list failed)
  fails Netscape error (of_the_file, is, failed) = rw is (of_file of_the_file failed)

-- an error that is out of memory has no line
pub no_line_without_memory : (error : FormatError) → format_error_status error ≡ NoMemory → malformed_line error ≡ []
no_line_without_memory (FormatCase.Store error) is = refl
no_line_without_memory (FormatCase.BadLine line) is = absurd (cc)
no_line_without_memory FormatCase.Unrepresentable is = refl

-- options that are not lenient: a store that was created
pub strictly_loads : (options : Options) (text : List ℕ) (store : Contents) (numbers : List ℕ) → options.is_lenient ≡ false → numbers ≡ []
    → BuildsAs options.format text options.which (rows_in_order store) → store.suffixes ≡ None → store.limit ≡ None
    → LoadsBy options.is_lenient (view options) text (reported store numbers)
strictly_loads options text store numbers strict none built suffixes limit =
    subst (λ (lenient : Bool). LoadsBy lenient (view options) text (reported store numbers)) (sym strict)
    (subst (λ (numbers : List ℕ). LoadsAs options.format (view options) text (reported store numbers)) (sym none)
    (loads options.is_lenient options.which text options.format store built suffixes limit))

-- or there is none
pub strictly_fails : (options : Options) (text : List ℕ) (error : FormatError) (status : Status) (line : Option ℕ)
    → options.is_lenient ≡ false → status ≡ format_error_status error → numbers_of line ≡ malformed_line error
    → FailsToParseAs options.format error text
    → LoadsBy options.is_lenient (view options) text (rejected status (numbers_of line)) ⊎ ((status ≡ NoMemory) × (line ≡ None))
strictly_fails options text error status line strict is numbers failed =
    ⊎_elim
    (λ outcome. inl (subst (λ (lenient : Bool). LoadsBy lenient (view options) text (rejected status (numbers_of line))) (sym strict)
    (subst (λ (loaded : LoadOutcome). LoadsAs options.format (view options) text loaded)
    (λ i. rejected (sym is i) (sym numbers i)) outcome)))
    (λ memory. inr (is ∙ memory, no_line line (numbers ∙ no_line_without_memory error memory)))
    (fails options.is_lenient options.which text options.format error failed)
