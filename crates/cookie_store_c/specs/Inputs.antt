-- The arguments that C programs pass: strings, times and URLs, or the status of an invalid one.
use Rattle.std.specs.Prelude.{◌≡◌, ◌⊎◌, ℕ, List, Result, Ok, Err, if◌then◌else◌, ℤ}
use Rattle.std.specs.Option.{ok_or}
use Rattle.std.specs.Str.{is_utf8}
use Rattle.url.specs.Parts.{Parts}
use Rattle.cookie_words.specs.Moments.{Moment}
use Rattle.cookie_words.specs.Seconds.{moment_at_second}
use Rattle.cookie_parts.specs.Cookie.{and_then}
use Rattle.cookie_inputs.specs.Urls.{unambiguous_url}
use Rattle.cookie_laws.specs.Rows.{key_at}
use Rattle.cookie_laws.specs.Runs.{Call, Set, Remove}
use Rattle.cookie_store_c.specs.declared.status.Status.{Status}
use Rattle.cookie_store_c.specs.declared.status.Status.TheVariants.{NoMemory, BadUrl, NotUtf8, BadTime}

-- a string in UTF-8
abbrev pub text_in : List ℕ → Result (List ℕ) Status
text_in bytes = if is_utf8 bytes then Ok bytes else Err NotUtf8

-- the time this number of seconds after the epoch, in the years -9999 to 9999
abbrev pub moment_in : ℤ → Result Moment Status
moment_in seconds = ok_or (moment_at_second seconds) BadTime

-- the URL that a string parses to, unless it is ambiguous
unfoldable pub url_in : List ℕ → Result Parts Status
url_in text = ok_or (unambiguous_url text) BadUrl

-- a URL
abbrev pub parsed_url : List ℕ → Result Parts Status
parsed_url url = and_then (text_in url) url_in

-- the string of a URL, and a time
abbrev pub text_and_time : List ℕ → ℤ → Result (List ℕ × Moment) Status
text_and_time url now = and_then (text_in url) (λ text. and_then (moment_in now) (λ moment. Ok (text, moment)))

-- a URL and a time
abbrev pub request : List ℕ → ℤ → Result (Parts × Moment) Status
request url now = and_then (text_and_time url now) (λ inputs. and_then (url_in inputs.0) (λ parts. Ok (parts, inputs.1)))

-- the URL of a page, and the URL and the time of a request that it made
abbrev pub page_and_request : List ℕ → List ℕ → ℤ → Result (Parts × Parts × Moment) Status
page_and_request page url now =
    and_then (text_in page) (λ text. and_then (request url now) (λ inputs.
    and_then (url_in text) (λ parts. Ok (parts, inputs.0, inputs.1))))

-- a Set-Cookie header value received from a URL at a time
abbrev pub set_call : List ℕ → List ℕ → ℤ → Result Call Status
set_call url value now =
    and_then (text_in value) (λ text. and_then (request url now) (λ inputs. Ok (Set text inputs.0 inputs.1)))

-- a Set-Cookie header value of the response to a request that a page made
abbrev pub response_inputs : List ℕ → List ℕ → List ℕ → ℤ → Result (List ℕ × Parts × Parts × Moment) Status
response_inputs page url value now =
    and_then (text_in value) (λ text. and_then (page_and_request page url now) (λ inputs.
    Ok (text, inputs.0, inputs.1, inputs.2)))

-- the removal of the cookie with a domain, a path and a name
abbrev pub remove_call : List ℕ → List ℕ → List ℕ → Result Call Status
remove_call domain path name =
    and_then (text_in domain) (λ d. and_then (text_in path) (λ p. and_then (text_in name) (λ n. Ok (Remove (key_at d p n)))))

-- the result is this one, or memory ran out
abbrev pub GivesOrRunsOut : {T : Type 0} → Result T Status → Result T Status → Type 0
GivesOrRunsOut result expected = (result ≡ expected) ⊎ (result ≡ Err NoMemory)
