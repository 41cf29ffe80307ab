-- Tables of the fields of each form: all of them right; a further one; and each of them missing, wrongly typed, and
-- given twice, where the last stands. Each is found by computing; expected numbers by hand. (A flow without nodes is of
-- its form: it has a fault.)
--
-- The key idea: but for the forms with numbers at their edges, whose rows are written out, the rows follow from the
-- fields, with a right value and a wrong one of each.
use Rattle.std.specs.Prelude.{ℕ, List, [], ◌∷◌, ◌++◌, flat_map, codes}
use Rattle.std.specs.Str.{is_utf8, chars}
use Rattle.std.proofs.Common.{refl}
use Rattle.serde_json.proofs.OnLiterals.{serde_json_on_literals}
use Rattle.sz_script.proofs.RowsTold.{AreTold, Row, row, each, read_as, object_read_as, Field, field, rows_of}

-- the rows of a form, whose line is a command, by its fields
abbrev of_form : List Field → List Row
of_form fs = rows_of [] [] [] fs

of_arrays : AreTold object_read_as (
    of_form (field (codes "array") (codes "\"a\"") (codes "1")
    ∷ field (codes "cells") (codes "[[1]]") (codes "{}") ∷ [])
    ++ of_form (field (codes "layers") (codes "\"a\"") (codes "null")
    ∷ field (codes "cells") (codes "[[[1]]]") (codes "\"1\"") ∷ []))
unfolding serde_json_on_literals is_utf8 chars
of_arrays = refl

of_flows : AreTold object_read_as (
    rows_of (8 ∷ 1 ∷ []) [] [] (field (codes "flow") (codes "\"f\"") (codes "[]")
    ∷ field (codes "inputs") (codes "1") (codes "-1") ∷ field (codes "nodes") (codes "[]") (codes "{}") ∷ [])
    ++ of_form (field (codes "strategy") (codes "\"f\"") (codes "0")
    ∷ field (codes "node") (codes "0") (codes "\"0\"") ∷ field (codes "list") (codes "[\"map\"]") (codes "\"map\"")
    ∷ [])
    ++ of_form (field (codes "start") (codes "\"f\"") (codes "true")
    ∷ field (codes "base") (codes "[[\"a\",1]]") (codes "1") ∷ []))
unfolding serde_json_on_literals is_utf8 chars
of_flows = refl

of_versions : AreTold object_read_as (
    of_form (field (codes "await") (codes "1") (codes "\"x\"") ∷ [])
    ++ of_form (field (codes "show") (codes "1") (codes "4294967296")
    ∷ field (codes "node") (codes "0") (codes "null") ∷ []))
unfolding serde_json_on_literals is_utf8 chars
of_versions = refl

-- the rows of a form that asks along a path, by its word, a direction, and a wrong version, direction, path and cells
abbrev of_question : (word dir no_version no_dir no_path no_cells : List ℕ) → List Row
of_question word dir no_version no_dir no_path no_cells = of_form (
    field word (codes "1") no_version ∷ field (codes "dir") dir no_dir ∷ field (codes "path") (codes "[[0,0]]") no_path
    ∷ field (codes "cells") (codes "[[0,0]]") no_cells ∷ [])

of_questions : AreTold object_read_as (
    of_question (codes "ask") (codes "\"back\"") (codes "\"1\"") (codes "0") (codes "{}") (codes "null")
    ++ of_question (codes "explain") (codes "\"forward\"") (codes "1.0") (codes "\"up\"") (codes "[0,0]")
    (codes "[0,0]"))
unfolding serde_json_on_literals is_utf8 chars
of_questions = refl

-- a plan of a flow, by what stands behind its name
abbrev plan : List ℕ → List ℕ
plan text = codes "{\"plan\":\"f\"," ++ text ++ codes "}"

of_plan : AreTold read_as (
    each [] (
    plan (codes "\"base\":[[\"a\",1]],\"units\":1,\"back\":1,\"forward\":1")
    ∷ plan (codes "\"base\":[[\"a\",1]],\"units\":4294967295,\"back\":1,\"forward\":1")
    ∷ plan (codes "\"base\":[[\"a\",1]],\"units\":1,\"back\":1,\"forward\":1.0,\"forward\":0")
    ∷ codes "{\"plan\":1,\"plan\":\"f\",\"base\":[[\"a\",1]],\"units\":1,\"back\":1,\"forward\":1}" ∷ [])
    ++ each (3 ∷ []) (
    -- a further field, and no name
    plan (codes "\"base\":[[\"a\",1]],\"units\":1,\"back\":1,\"forward\":1,\"more\":1")
    ∷ codes "{\"base\":[[\"a\",1]],\"units\":1,\"back\":1,\"forward\":1}"
    ∷ codes "{\"plan\":1,\"base\":[[\"a\",1]],\"units\":1,\"back\":1,\"forward\":1}"
    -- no base arrays, no units, and no asks
    ∷ plan (codes "\"units\":1,\"back\":1,\"forward\":1")
    ∷ plan (codes "\"base\":1,\"units\":1,\"back\":1,\"forward\":1")
    ∷ plan (codes "\"base\":[[\"a\"]],\"units\":1,\"back\":1,\"forward\":1")
    ∷ plan (codes "\"base\":[[\"a\",1]],\"back\":1,\"forward\":1")
    ∷ plan (codes "\"base\":[[\"a\",1]],\"units\":4294967296,\"back\":1,\"forward\":1")
    ∷ plan (codes "\"base\":[[\"a\",1]],\"units\":1,\"forward\":1")
    ∷ plan (codes "\"base\":[[\"a\",1]],\"units\":1,\"back\":-1,\"forward\":1")
    ∷ plan (codes "\"base\":[[\"a\",1]],\"units\":1,\"back\":1")
    ∷ plan (codes "\"base\":[[\"a\",1]],\"units\":1,\"back\":1,\"forward\":1.0") ∷ []))
unfolding serde_json_on_literals is_utf8 chars
of_plan = refl

-- a refresh of version 1, by what stands behind its number, and one of its first input, by the cells that it sets
abbrev refresh : List ℕ → List ℕ
refresh text = codes "{\"refresh\":1," ++ text ++ codes "}"

abbrev set : List ℕ → List ℕ
set cells = refresh (codes "\"input\":0,\"set\":" ++ cells)

of_refresh : AreTold read_as (
    each [] (set (codes "[]") ∷ set (codes "[[0,0,7]]") ∷ set (codes "[[0,0,null]]")
    ∷ set (codes "[[0,0,-9223372036854775808],[1,0,0,7]]") ∷ set (codes "7,\"set\":[]") ∷ [])
    ++ each (3 ∷ []) (set (codes "[[0,0,9223372036854775808]]") ∷ set (codes "[[0,0,1.0]]")
    ∷ set (codes "[[0,0,\"7\"]]") ∷ set (codes "[[0,0,true]]") ∷ set (codes "[[0,0]]") ∷ set (codes "[[0,0,0,0,7]]")
    ∷ set (codes "[[-1,0,7]]") ∷ set (codes "[[0,4294967296,7]]") ∷ set (codes "[[0,-1,0,7]]") ∷ set (codes "[7]")
    ∷ set (codes "7") ∷ set (codes "[],\"more\":1")
    -- the fields before the cells
    ∷ refresh (codes "\"input\":0") ∷ refresh (codes "\"set\":[]") ∷ refresh (codes "\"input\":-1,\"set\":[]")
    ∷ codes "{\"input\":0,\"set\":[]}" ∷ codes "{\"refresh\":\"1\",\"input\":0,\"set\":[]}" ∷ []))
unfolding serde_json_on_literals is_utf8 chars
of_refresh = refl

-- the rows of a form that has the number of a version alone, by its word
abbrev of_version : List ℕ → List Row
of_version word =
    let given : List ℕ → List ℕ = λ number. codes "{\"" ++ word ++ codes "\":" ++ number in
    each [] (
    given (codes "1}") ∷ given (codes "4294967295}")
    ∷ given (codes "0,\"" ++ word ++ codes "\":1}") ∷ [])
    ++ each (3 ∷ []) (given (codes "4294967296}") ∷ given (codes "\"1\"}") ∷ given (codes "1,\"more\":1}") ∷ [])

of_merges : AreTold read_as (
    flat_map of_version (codes "merge" ∷ codes "merged" ∷ [])
    ++ row (codes "{\"merge\":1,\"merged\":1}") (3 ∷ []) ∷ [])
unfolding serde_json_on_literals is_utf8 chars
of_merges = refl
