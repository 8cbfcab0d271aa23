-- The formats in which rows are saved as one list.
use Rattle.std.specs.Prelude.{ℕ, List, Result}
use Rattle.std.specs.declared.alloc.Global.{Global}
use Rattle.std.specs.declared.string.String.{String}
use Rattle.cookie_parts.specs.Cookie.{Row}
use Rattle.cookie_parts.specs.declared.error.Error.{Error}
use Rattle.cookie_serde.specs.JsonLists.{JsonListParsesTo, SerializesToJsonList}
use Rattle.cookie_serde.specs.RonLists.{RonListParsesTo, SerializesToRonList}
use Rattle.cookie_serde.specs.declared.list_format.ListFormat.{ListFormat}
use Rattle.cookie_serde.specs.declared.list_format.ListFormat.TheVariants.{Json, Ron}

-- the result of writing rows in the format
abbrev pub SerializesTo : ListFormat → List Row → Result (String Global) Error → Type 0
SerializesTo Json = SerializesToJsonList
SerializesTo Ron = SerializesToRonList

-- the result of reading a string in the format
abbrev pub ParsesTo : ListFormat → List ℕ → Result (List Row) Error → Type 0
ParsesTo Json = JsonListParsesTo
ParsesTo Ron = RonListParsesTo
