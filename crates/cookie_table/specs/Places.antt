-- The places of the columns of the table `cookies` in a row, from 0: the first has the rowid, and the second its NULL.
use Rattle.std.specs.Prelude.{ℕ}

-- the domain of a cookie
abbrev pub host_place : ℕ
host_place = 2

-- the kind of its domain
abbrev pub kind_place : ℕ
kind_place = 3

-- its path
abbrev pub path_place : ℕ
path_place = 4

-- whether a Path attribute gave the path
abbrev pub path_mark_place : ℕ
path_mark_place = 5

-- its name
abbrev pub name_place : ℕ
name_place = 6

-- its value
abbrev pub value_place : ℕ
value_place = 7

-- its expiry
abbrev pub expiry_place : ℕ
expiry_place = 8

-- the Secure attribute
abbrev pub secure_place : ℕ
secure_place = 9

-- the HttpOnly attribute
abbrev pub http_only_place : ℕ
http_only_place = 10

-- the SameSite attribute
abbrev pub same_site_place : ℕ
same_site_place = 11

-- the Domain attribute
abbrev pub domain_attribute_place : ℕ
domain_attribute_place = 12

-- the Path attribute
abbrev pub path_attribute_place : ℕ
path_attribute_place = 13

-- the Max-Age attribute
abbrev pub max_age_place : ℕ
max_age_place = 14

-- the Expires attribute
abbrev pub expires_place : ℕ
expires_place = 15
