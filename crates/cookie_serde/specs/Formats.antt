-- Rows saved and loaded in a format. `known` are the bytes of the source, if they are known.
use Rattle.std.specs.Prelude.{◌≡◌, ℕ, List, Option, Result, Ok, Err}
use Rattle.std.specs.declared.alloc.Global.{Global}
use Rattle.std.specs.declared.string.String.{String}
use Rattle.cookie_device.specs.Device.{SinkState, SourceState}
use Rattle.cookie_netscape.specs.Files.{FailsToRead}
use Rattle.cookie_netscape.specs.declared.error.NetscapeError.{NetscapeError}
use Rattle.cookie_parts.specs.Cookie.{Row}
use Rattle.cookie_parts.specs.declared.error.Error.{Error}
use Rattle.cookie_laws.specs.Rows.{RowsInOrder}
use Rattle.cookie_serde.specs.FormatErrors.{format_error_of}
use Rattle.cookie_serde.specs.JsonLists.{JsonListParsesTo, SerializesToJsonList}
use Rattle.cookie_serde.specs.SavedLists.{BuildsFromList, BuildsFromText, FailsAtText, FailsToLoadList, FailsToSaveList, WritesList}
use Rattle.cookie_serde.specs.NetscapeLists.{BuildsFromNetscape, FailsToLoadNetscape, FailsToSaveNetscape, LoadsNetscape, SerializesToNetscape, WritesNetscape}
use Rattle.cookie_serde.specs.RonLists.{RonListParsesTo, SerializesToRonList}
use Rattle.cookie_serde.specs.declared.format.Format.{Format}
use Rattle.cookie_serde.specs.declared.format.Format.TheVariants.{Json, Ron, Netscape}
use Rattle.cookie_serde.specs.declared.format_error.FormatError.{FormatError}
use Rattle.cookie_serde.specs.declared.format_error.FormatError.TheVariants.{Store}
use Rattle.cookie_serde.specs.declared.which.Which.{Which}

-- the error is one of a list in JSON or RON that satisfies this
abbrev pub IsOfList : (Error → Type 0) → FormatError → Type 0
IsOfList Holds error = (of_list : Error) × (error ≡ Store of_list) × Holds of_list

-- the error is one of a `cookies.txt` file that satisfies this
abbrev pub IsOfFile : (NetscapeError → Type 0) → FormatError → Type 0
IsOfFile Holds error = (of_file : NetscapeError) × (error ≡ format_error_of of_file) × Holds of_file

-- the rows were written in the format
abbrev pub WritesAs : Format → List Row → Option (List ℕ) → Option (List ℕ) → Type 0
WritesAs Json = WritesList SerializesToJsonList
WritesAs Ron = WritesList SerializesToRonList
WritesAs Netscape = WritesNetscape

-- writing the rows in the format failed
abbrev pub FailsToSaveAs : Format → FormatError → List Row → SinkState → SinkState → Type 0
FailsToSaveAs Json error rows old new = IsOfList (λ e. FailsToSaveList SerializesToJsonList e rows old new) error
FailsToSaveAs Ron error rows old new = IsOfList (λ e. FailsToSaveList SerializesToRonList e rows old new) error
FailsToSaveAs Netscape error rows old new = IsOfFile (λ e. FailsToSaveNetscape e rows old new) error

-- the result of writing the rows to a string
abbrev pub SerializesAs : Format → List Row → Result (String Global) FormatError → Type 0
SerializesAs Json rows (Ok text) = SerializesToJsonList rows (Ok text)
SerializesAs Json rows (Err error) = IsOfList (λ e. SerializesToJsonList rows (Err e)) error
SerializesAs Ron rows (Ok text) = SerializesToRonList rows (Ok text)
SerializesAs Ron rows (Err error) = IsOfList (λ e. SerializesToRonList rows (Err e)) error
SerializesAs Netscape rows (Ok text) = SerializesToNetscape rows (Ok text)
SerializesAs Netscape rows (Err error) = IsOfFile (λ e. SerializesToNetscape rows (Err e)) error

-- the rows built from those of the cookies of the source that are loaded
abbrev pub LoadsAs : Format → Option (List ℕ) → Which → RowsInOrder → Type 0
LoadsAs Json = BuildsFromList JsonListParsesTo
LoadsAs Ron = BuildsFromList RonListParsesTo
LoadsAs Netscape = LoadsNetscape

-- loading failed
abbrev pub FailsToLoadAs : Format → FormatError → SourceState → SourceState → Type 0
FailsToLoadAs Json error old new = IsOfList (λ e. FailsToLoadList JsonListParsesTo e old new) error
FailsToLoadAs Ron error old new = IsOfList (λ e. FailsToLoadList RonListParsesTo e old new) error
FailsToLoadAs Netscape error old new = IsOfFile (λ e. FailsToLoadNetscape e old new) error

-- the rows built from those of the cookies of a string that are loaded
abbrev pub BuildsAs : Format → List ℕ → Which → RowsInOrder → Type 0
BuildsAs Json = BuildsFromText JsonListParsesTo
BuildsAs Ron = BuildsFromText RonListParsesTo
BuildsAs Netscape = BuildsFromNetscape

-- parsing a string failed
abbrev pub FailsToParseAs : Format → FormatError → List ℕ → Type 0
FailsToParseAs Json error text = IsOfList (λ e. FailsAtText JsonListParsesTo e text) error
FailsToParseAs Ron error text = IsOfList (λ e. FailsAtText RonListParsesTo e text) error
FailsToParseAs Netscape error text = IsOfFile (λ e. FailsToRead e text) error
