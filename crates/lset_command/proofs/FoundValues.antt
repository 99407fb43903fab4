-- Lemmas about the values that a parse found, for each argument.
use Rattle.std.proofs.Common.{◌≡◌, List, [], ◌∷◌, ◌++◌, map, drop, Option, Some, None, true, false, ap, sym, ◌∙◌, append_assoc, append-nil}
use Rattle.std.specs.Prelude.{codes, if◌then◌else◌, option_map, slice_get, unwrap_or}
use Rattle.std.specs.Option.{option_map_or}
use Rattle.std.specs.Str.{bytes_eq}
use Rattle.std.specs.List.{flat_map}
use Rattle.std.proofs.lemmas.List.Folds.{flat_map-map}
use Rattle.clap.specs.Words.{Row, Text, all_of, first_of, first_value, matched_of, raw_values, rows_of}
use Rattle.clap.specs.Facts.{Entry}
use Rattle.clap.specs.Walk.{row_of}
use Rattle.clap.specs.declared.parser.matches.Found.{Found}
use Rattle.clap.proofs.WalkLemmas.{first_value-rows, raw_values-rows}
use Rattle.lset_command.specs.CommandLine.{is_on, is_option, values_by, values_in}

abbrev pub values_by_names : List Row → List Text → List Text
values_by_names rows names = flat_map (λ name. values_by name rows) names

pub by_all_names : (f : Found) (names : List Text) → names ≡ map (λ e. e.0.now) f.entries.items →
    values_by_names (rows_of f) names ≡ values_in (rows_of f)
by_all_names f names all =
    ap (values_by_names (rows_of f)) all ∙ flat_map-map (λ name. values_by name (rows_of f)) (λ (e : Entry). e.0.now)
    f.entries.items
    ∙ sym (flat_map-map (λ (row : Row). values_by row.id (rows_of f)) row_of f.entries.items)

pub got : (f : Found) (name : Text) (values : Option (List Text)) → is_option name ≡ false →
    values ≡ option_map raw_values (matched_of f name)
    → values_by name (rows_of f) ≡ unwrap_or values []
got f name values plain is =
    ap (λ b. if b then [] else unwrap_or (all_of name (rows_of f)) []) plain
    ∙ ap (λ o. unwrap_or o []) (sym (raw_values-rows f name) ∙ sym is)

pub none_of_option : (name : Text) (rows : List Row) → is_option name ≡ true → values_by name rows ≡ []
none_of_option name rows is = ap (λ b. if b then [] else unwrap_or (all_of name rows) []) is

pub told : (f : Found) (name : Text) (text : Option Text) → text ≡ first_value f name → first_of name (rows_of f) ≡ text
told f name text is = sym (first_value-rows f name) ∙ sym is

pub told_on : (f : Found) (name : Text) (text : Option Text) → text ≡ first_value f name
    → is_on name (rows_of f) ≡ option_map_or (λ text. bytes_eq text (codes "true")) text false
told_on f name text is = ap (λ o. option_map_or (λ text. bytes_eq text (codes "true")) o false) (told f name text is)

first_and_rest : (name : Text) (left after : List Text) → Some name ≡ slice_get left 0 → after ≡ drop 1 left → left ≡ name ∷ after
first_and_rest name [] after first rest = absurd cc
first_and_rest name (x ∷ xs) after first rest = cc

pub one_more : (rows : List Row) (all had has : List Text) (name : Text) (left after : List Text) → had
    ++ values_by_names rows left ≡ all
    → Some name ≡ slice_get left 0 → after ≡ drop 1 left → has ≡ had ++ values_by name rows → has
    ++ values_by_names rows after ≡ all
one_more rows all had has name left after before first rest grown =
    ap (λ l. l ++ values_by_names rows after) grown ∙ append_assoc had (values_by name rows) (values_by_names rows after)
    ∙ ap (λ l. had ++ values_by_names rows l) (sym (first_and_rest name left after first rest)) ∙ before

pub no_more : (rows : List Row) (all had left : List Text) → had ++ values_by_names rows left ≡ all → None ≡ slice_get left 0 →
    had ≡ all
no_more rows all had [] before none = sym (append-nil had) ∙ before
no_more rows all had (x ∷ xs) before none = absurd cc
