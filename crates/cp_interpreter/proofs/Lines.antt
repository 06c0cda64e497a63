-- Last lines that are written in parts.
use Rattle.std.proofs.Common.{◌≡◌, inl, inr, ℕ, ◌+◌, List, [], ◌++◌, length, take, true, false, is_err, Result, Ok, Err, OnOk, OnErr, sym, ◌∙◌, subst, arith}
use Rattle.std.specs.Prelude.{⊤}
use Rattle.std.proofs.Math.Seq.{take-append-add}
use Rattle.std.proofs.lemmas.List.{take-append-le, length-append}
use Rattle.std.proofs.KnownBytes.{Appends-trans}
use Rattle.std.specs.Io.KnownBytes.{Appends}
use Rattle.cp_outside.specs.Causes.{one_more}
use Rattle.cp_outside.specs.Sinks.{CountsRefusal, TakesLess}
use Rattle.cp_outside.specs.declared.sink.SinkFault.{SinkFault}
use Rattle.cp_interpreter.specs.Outside.{KnownOutput}
use Rattle.cp_interpreter.specs.Story.{Writes, WasRefused, WritesLast}

-- a write was refused after calls in which none was
pub refused-after : (b m a : KnownOutput) → m.refusals ≡ b.refusals → WasRefused m a → WasRefused b a
refused-after b m a same refused = record { once = subst (λ n. a.refusals ≡ one_more n) same refused.once; last = refused.last }

-- the first part of a line, and then the rest
pub last-then : (b m a : KnownOutput) (xs ys : List ℕ) → Writes b m xs → WritesLast m a [] ys → WritesLast b a [] (xs ++ ys)
last-then b m a xs ys h w = elim w as (λ _. WritesLast b a [] (xs ++ ys)) [
  | inl all ↦ inl (all.0 ∙ h.0, Appends-trans b.contents m.contents a.contents xs ys h.1 all.1)
  | inr p ↦ inr (
    refused-after b m a h.0 p.0,
    length xs + p.1,
    omega (arith, p.2, length-append xs ys),
    subst (Appends b.contents a.contents) (sym (take-append-add xs ys p.1)) (Appends-trans b.contents m.contents a.contents xs (take p.1 ys) h.1 p.3),
  )
]

-- a write was refused in the first part of a line
pub last-refused : (b a : KnownOutput) (xs ys : List ℕ) (result : Result ⊤ SinkFault) → is_err result ≡ true → OnErr result (TakesLess b.contents a.contents xs) → CountsRefusal b.refusals a.refusals result → OnErr result (a.since_refusal ≡ 0) → WritesLast b a [] (xs ++ ys)
last-refused b a xs ys (Ok x) is part refused since = absurd (cc)
last-refused b a xs ys (Err e) is part refused since = inr (
  record { once = refused; last = since },
  part.0,
  omega (arith, part.1, length-append xs ys),
  subst (Appends b.contents a.contents) (sym (take-append-le part.0 xs ys (omega (arith, part.1)))) part.2,
)

-- none was
pub part-wrote : (b a : KnownOutput) (xs : List ℕ) (result : Result ⊤ SinkFault) → is_err result ≡ false → OnOk result (Appends b.contents a.contents xs) → CountsRefusal b.refusals a.refusals result → Writes b a xs
part-wrote b a xs (Ok x) is all refused = (refused, all)
part-wrote b a xs (Err e) is all refused = absurd (cc)
