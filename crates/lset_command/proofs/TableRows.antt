-- Lemmas about the rows of the table of commands: each row adds one argument or one subcommand, and a search by name
-- returns the command of the first row that has the name.
use Rattle.std.proofs.Common.{◌≡◌, ◌+◌, ◌<◌, ◌∙◌, ℕ, Bool, true, false, List, map, take, drop, get_or, length, ap, sym}
use Rattle.std.proofs.lemmas.List.{at_drop_more, map_more}
use Rattle.std.proofs.lemmas.List.Sums.{fold_push}
use Rattle.std.specs.Prelude.{if◌then◌else◌}
use Rattle.std.specs.List.{fold}
use Rattle.std.specs.Str.{bytes_eq}
use Rattle.clap.specs.Words.{App, Text}
use Rattle.lset_command.specs.CommandLine.{CommandRow, command_in, row_of}

pub one_more : {A R : Type 0} (f : App → A → App) (g : R → A) (a : App) (rows : List R) (i : ℕ) (d : R) → i < length rows
    → f (fold f a (map g (take i rows))) (g (get_or rows i d)) ≡ fold f a (map g (take (i + 1) rows))
one_more f g a rows i d inside =
    sym (ap (fold f a) (map_more g rows i d inside) ∙ fold_push f a (map g (take i rows)) (g (get_or rows i d)))

next_row : (name : Text) (rows : List CommandRow) (i : ℕ) (d : CommandRow) (same : Bool) → i < length rows
    → bytes_eq (get_or rows i d).1.now name ≡ same
    → command_in name (map row_of (drop i rows)) ≡ (if same then (get_or rows i d).0 else command_in name (map row_of (drop (i + 1) rows)))
next_row name rows i d same inside is =
    at_drop_more (λ rows. command_in name (map row_of rows)) rows i d inside
    ∙ ap (λ b. if b then (get_or rows i d).0 else command_in name (map row_of (drop (i + 1) rows))) is

pub found_row : (name : Text) (rows : List CommandRow) (i : ℕ) (d : CommandRow) → i < length rows
    → command_in name (map row_of (drop i rows)) ≡ command_in name (map row_of rows)
    → bytes_eq (get_or rows i d).1.now name ≡ true → (get_or rows i d).0 ≡ command_in name (map row_of rows)
found_row name rows i d inside before is = sym (next_row name rows i d true inside is) ∙ before

pub other_row : (name : Text) (rows : List CommandRow) (i : ℕ) (d : CommandRow) → i < length rows
    → command_in name (map row_of (drop i rows)) ≡ command_in name (map row_of rows)
    → bytes_eq (get_or rows i d).1.now name ≡ false
    → command_in name (map row_of (drop (i + 1) rows)) ≡ command_in name (map row_of rows)
other_row name rows i d inside before is = sym (next_row name rows i d false inside is) ∙ before
