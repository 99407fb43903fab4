use Rattle.std.proofs.Common.{◌≡◌, ℕ, List, length, Ok, Err, refl, ap, subst, ◌∙◌}
use Rattle.tool_base.specs.Tools.{Made}
use Rattle.ffi_page.specs.Page.{Handed, IsHanded, text_of, status_of}
use Rattle.ffi_page.proofs.handing.hand.Goals as goal

handed_as : (made : Made) (old new text : List ℕ) (status count : ℕ)
    → text ≡ text_of made → Handed text old new → status ≡ status_of made → count ≡ length text →
    IsHanded made old new status count
handed_as made old new text status count same handed status_is counted = record {
  text = subst (λ t. Handed t old new) same handed;
  status_is = status_is;
  count_is = counted ∙ ap length same;
}

pub returns-in-Ok : goal.returns-in-Ok
returns-in-Ok c =
    rw c.in-Ok.is (handed_as (Ok (record { text = c.in-Ok.answer.text.items; status = c.in-Ok.answer.status })) _ _ _ _ _
    c.deref.ensures.value c.put.ensures.handed refl c.put.ensures.count)

pub returns-in-Err : goal.returns-in-Err
returns-in-Err c =
    rw c.in-Err.is (handed_as (Err c.in-Err.trouble) _ _ _ _ _
    (c.as_bytes.ensures.value ∙ c.deref-in-Err.ensures.0 ∙ c.line_of.ensures) c.put-in-Err.ensures.handed c.status.ensures c.put-in-Err.ensures.count)
