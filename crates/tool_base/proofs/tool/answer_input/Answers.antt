use Rattle.std.proofs.Common.{◌≡◌, ◌⊎◌, ℕ, List, Option, Some, None, Err, IfSome, arith, inl, inr, ap, ◌∙◌, subst}
use Rattle.std.proofs.lemmas.Result.{err_from_is_err_and}
use Rattle.tool_base.specs.Tools.{IsReadOf, Made, OnInput, OnText, view}
use Rattle.tool_base.proofs.tool.answer_input.Goals as goal

module _ (Makes : List ℕ → Made → Type 0) (made : Made) where
  of_any : (known : Option (List ℕ)) → ((bytes : List ℕ) → OnInput Makes bytes made) → IfSome known (λ bytes. OnInput Makes bytes made)
  of_any None each = tt
  of_any (Some bytes) each = each bytes

  too_many : (read all : List ℕ) → OnText Makes read made → IsReadOf read all → OnInput Makes all made
  too_many read all on (inl same) = inr (inr (subst (λ (bytes : List ℕ). OnText Makes bytes made) same on))
  too_many read all (inl (t, is, long)) (inr (_, also)) = inr (inr (inl (t, is, (long.0, also))))
  too_many read all (inr (taken, on)) (inr (long, also)) = absurd (omega (arith, taken, long))

  of_read : (known : Option (List ℕ)) (read : List ℕ) → OnText Makes read made → IfSome known (IsReadOf read)
      → IfSome known (λ bytes. OnInput Makes bytes made)
  of_read None read on is = tt
  of_read (Some all) read on is = too_many read all on is

pub returns-in_err-bytes : goal.returns-in_err-bytes
returns-in_err-bytes g c =
    let p = err_from_is_err_and c.from_residual.result c.from_residual.ensures.1 in
    of_any (g.T.Tool.answers c.args.tool.now) (view c.from_residual.result) (g.R.Read.remaining c.args.input.now) (λ bytes.
    elim c.in_err-bytes.ensures.trouble [
      | inl read ↦ inl (ap view p.1 ∙ ap Err (p.2 ∙ read))
      | inr memory ↦ inr (inl (ap view p.1 ∙ ap Err (p.2 ∙ memory)))
    ])

pub returns : goal.returns
returns g c =
    of_read (g.T.Tool.answers c.args.tool.now) _ (g.R.Read.remaining c.args.input.now) c.in_ok-bytes.bytes.items
    (rw c.deref.ensures.value at c.answer_text.ensures) c.in_ok-bytes.ensures.read
