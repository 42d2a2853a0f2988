-- own: the fifteen tables of a desk, as SQL sees them. All are STRICT, and no column may be NULL.
use Rattle.std.specs.Prelude.{ℕ, List, [], ◌∷◌, ◌++◌, Option, Some, None, codes, true, false, map}
use Rattle.sqlite.specs.Collation.TheVariants.{Binary}
use Rattle.sqlite.specs.declared.types.Value.TheVariants.{Null}
use Rattle.sqlite.specs.Kind.{Kind}
use Rattle.sqlite.specs.Kind.TheVariants.{Integer, Text, Blob}
use Rattle.sqlite.specs.Schema.{Schema}
use Rattle.sqlite.specs.Table.{Table}
use Rattle.sqlite_schema.specs.declared.schema.Column.{Column}
use Rattle.sqlite_value.specs.Keys.{plain}
use Rattle.store_sql.specs.Layouts.{Layout, alone, leading}
use Rattle.store_sql.specs.Meanings.{schema_after}

-- a column of a STRICT table, NOT NULL; text is compared byte by byte
abbrev pub column_of : List ℕ → Kind → Column
column_of name kind = record { name = name; kind = kind; is_strict = true; not_null = true; default = Null; collation = Binary }

-- A table whose first column is its INTEGER PRIMARY KEY, or one whose primary key is other columns.
-- A key's columns are counted from 0 if it is the row id, and otherwise from 1, after the row id.
abbrev pub table_of : List ℕ → ℕ → List Column → Option ℕ → List ℕ → List (List ℕ) → Table
table_of name tree columns key primary uniques = record {
  name = name;
  tree = tree;
  columns = columns;
  key = key;
  primary = primary;
  uniques = uniques;
  orders = map (λ _. plain) uniques;
  checks = [];
  references = [];
  computed = [];
  stamps = record { places = []; terms = []; formats = [] };
  is_counted = false;
}

-- a table whose first column is its INTEGER PRIMARY KEY
abbrev pub numbered_table : List ℕ → ℕ → List Column → List (List ℕ) → Table
numbered_table name tree columns uniques = table_of name tree columns (Some 0) (0 ∷ []) uniques

-- a table with another primary key, and with other UNIQUE keys
abbrev pub keyed_table : List ℕ → ℕ → List Column → List ℕ → List (List ℕ) → Table
keyed_table name tree columns primary others = table_of name tree columns None primary (primary ∷ others)

-- ---- the tables, each with its tree; each key that isn't the row id has one more tree after it

-- the desk itself, in one row: its mark, the version of the tables, the owner of its lists, and the
-- stamp of the level
abbrev pub desk : Table
desk = numbered_table (codes "desk") 0
    (column_of (codes "id") Integer ∷ column_of (codes "mark") Text ∷ column_of (codes "version") Integer ∷ column_of (codes "owner") Blob
    ∷ column_of (codes "stamp") Integer ∷ [])
    []

-- the people who may call, with their roles and the SHA-256 of their tokens
abbrev pub people : Table
people = keyed_table (codes "people") 1
    (column_of (codes "name") Text ∷ column_of (codes "role") Text ∷ column_of (codes "token") Blob ∷ [])
    (1 ∷ []) ((3 ∷ []) ∷ [])

-- the minutes: each accepted call with its reply, numbered from 1
abbrev pub calls : Table
calls = numbered_table (codes "calls") 4
    (column_of (codes "no") Integer ∷ column_of (codes "caller") Text ∷ column_of (codes "key") Text ∷ column_of (codes "text") Text
    ∷ column_of (codes "reply") Text ∷ [])
    ((2 ∷ 3 ∷ []) ∷ [])

-- the submitted images, numbered from 1, with their digests and states
abbrev pub requests : Table
requests = numbered_table (codes "requests") 6
    (column_of (codes "no") Integer ∷ column_of (codes "submitter") Text ∷ column_of (codes "title") Text ∷ column_of (codes "length") Integer
    ∷ column_of (codes "gap") Integer ∷ column_of (codes "file") Blob ∷ column_of (codes "digest") Blob ∷ column_of (codes "signing") Blob
    ∷ column_of (codes "state") Text ∷ [])
    []

-- the certificates that a request's image carries, by the SHA-256 of the TBSCertificate
abbrev pub request_certificates : Table
request_certificates = keyed_table (codes "request_certificates") 7
    (column_of (codes "request") Integer ∷ column_of (codes "digest") Blob ∷ [])
    (1 ∷ 2 ∷ []) []

-- the components of a request's image, at their places from 0
abbrev pub request_components : Table
request_components = keyed_table (codes "request_components") 9
    (column_of (codes "request") Integer ∷ column_of (codes "place") Integer ∷ column_of (codes "name") Text ∷ column_of (codes "generation") Integer ∷ [])
    (1 ∷ 2 ∷ []) []

-- the votes on requests, with their reviewers
abbrev pub votes : Table
votes = keyed_table (codes "votes") 11
    (column_of (codes "request") Integer ∷ column_of (codes "reviewer") Text ∷ column_of (codes "vote") Text ∷ column_of (codes "note") Text ∷ [])
    (1 ∷ 2 ∷ []) []

-- the signed file of a request, and its signer
abbrev pub returns : Table
returns = numbered_table (codes "returns") 13
    (column_of (codes "request") Integer ∷ column_of (codes "signer") Text ∷ column_of (codes "length") Integer ∷ column_of (codes "file") Blob
    ∷ column_of (codes "digest") Blob ∷ [])
    []

-- the entries listed in db: digests of images, and certificates with their bytes
abbrev pub listed : Table
listed = keyed_table (codes "listed") 14
    (column_of (codes "kind") Text ∷ column_of (codes "digest") Blob ∷ column_of (codes "body") Blob ∷ [])
    (1 ∷ 2 ∷ []) []

-- the revoked digests of images
abbrev pub revoked_digests : Table
revoked_digests = keyed_table (codes "revoked_digests") 16 (column_of (codes "digest") Blob ∷ []) (1 ∷ []) []

-- the revoked certificates, by the SHA-256 of the TBSCertificate
abbrev pub revoked_certificates : Table
revoked_certificates = keyed_table (codes "revoked_certificates") 18 (column_of (codes "digest") Blob ∷ []) (1 ∷ []) []

-- the level's components, each with its least generation
abbrev pub components : Table
components = keyed_table (codes "components") 20
    (column_of (codes "name") Text ∷ column_of (codes "generation") Integer ∷ [])
    (1 ∷ []) []

-- the proposals, numbered from 1, with their officer and kind, the stamp of the level, the count of
-- entries that an import skipped, and the state
abbrev pub proposals : Table
proposals = numbered_table (codes "proposals") 22
    (column_of (codes "no") Integer ∷ column_of (codes "officer") Text ∷ column_of (codes "kind") Text ∷ column_of (codes "stamp") Integer
    ∷ column_of (codes "passed") Integer ∷ column_of (codes "state") Text ∷ [])
    []

-- the items of a proposal: digests, certificates and components, at their places from 0
abbrev pub proposal_items : Table
proposal_items = keyed_table (codes "proposal_items") 23
    (column_of (codes "proposal") Integer ∷ column_of (codes "place") Integer ∷ column_of (codes "kind") Text ∷ column_of (codes "digest") Blob
    ∷ column_of (codes "name") Text ∷ column_of (codes "generation") Integer ∷ [])
    (1 ∷ 2 ∷ []) []

-- the number of calls that were accepted by the first rules, in one row
abbrev pub migrated : Table
migrated = numbered_table (codes "migrated") 25 (column_of (codes "id") Integer ∷ column_of (codes "calls") Integer ∷ []) []

-- the twelve of version 1, in the order in which they are made
abbrev pub first_tables : List Table
first_tables = desk ∷ people ∷ calls ∷ requests ∷ request_certificates ∷ request_components ∷ votes ∷ returns ∷ listed ∷ revoked_digests ∷ revoked_certificates
    ∷ components ∷ []

-- the three that version 2 adds
abbrev pub added_tables : List Table
added_tables = proposals ∷ proposal_items ∷ migrated ∷ []

-- all fifteen
abbrev pub desk_tables : List Table
desk_tables = first_tables ++ added_tables

-- as CREATE TABLE defines it, before it has a tree
abbrev pub defined : Table → Table
defined table = record table { tree = 0 }

-- a store without tables, indexes and views
abbrev pub no_schema : Schema
no_schema = record { tables = []; indexes = []; views = [] }

-- the schema of a desk's store of version 1: its tables, the indexes of their keys, and nothing else
abbrev pub first_schema : Schema
first_schema = schema_after no_schema (map defined first_tables)

-- the schema of a new desk's store: all fifteen tables, the indexes of their keys, and nothing else
abbrev pub desk_schema : Schema
desk_schema = schema_after first_schema (map defined added_tables)

-- a store with the tables of version 1 and no others
abbrev pub first_layout : Layout
first_layout = alone first_schema

-- a store whose tables begin with the fifteen; others may follow that don't refer to them
abbrev pub desk_layout : Layout
desk_layout = leading desk_schema
