-- The kinds that are tried are all that there are, so what is found has the number, and where none is found none has it.
use Rattle.std.proofs.Common.{rules, ◌≡◌, ℕ, sym, ◌∙◌, ap, eqb-true, refl, Bool, true, false, cond, List, [], ◌∷◌, map, Option, Some, None, ◌==◌}
use Rattle.std.specs.List.{find}
use Rattle.std.specs.Option.{ok_or}
use borrow.Author.Tests.{tests}
use Rattle.std.proofs.lemmas.Iterator.{YieldsList-from_slice, YieldsList-from_map}
use Rattle.std.proofs.lemmas.Iterator.Consumers.{YieldsList-at}
use Rattle.std.proofs.lemmas.Iterator.Adapters.{option_map_id}
use Rattle.std.proofs.lemmas.Iterator.Search.{find_from_yields_List}
use Rattle.replay_lines.specs.declared.kind.Kind.{Kind}
use Rattle.replay_lines.specs.declared.kind.UnknownKind.{UnknownKind}
use Rattle.replay_lines.specs.Kinds.{kind_number, NamesKind}
use Rattle.replay_lines.proofs.kind.KindTryFromUsize.try_from.Goals as goal

abbrev kinds : List Kind
kinds = Kind.Floor ∷ Kind.Ceil ∷ Kind.Fabs ∷ Kind.Sqrt ∷ Kind.Sin ∷ Kind.Cos ∷ Kind.Exp ∷ Kind.Pow04 ∷ Kind.BesselI0 ∷ Kind.KaiserBeta ∷ Kind.Kaiserord ∷ Kind.HalfbandLen ∷ Kind.Delay ∷ Kind.LowpassNew ∷ Kind.Lowpass ∷ Kind.SpecNumTaps ∷ Kind.SpecLowpass ∷ Kind.SpecDesign ∷ Kind.HalfbandNew ∷ Kind.Halfband ∷ Kind.GaussianNew ∷ Kind.Gaussian ∷ Kind.ChannelizerTaps ∷ Kind.ChannelizerTapsPerBranch ∷ Kind.ChannelizerLowpass ∷ Kind.ChannelizerPrototype ∷ Kind.Q15FromF64 ∷ Kind.Q15Tap ∷ Kind.ToQ15 ∷ Kind.RrcLen ∷ Kind.RrcNew ∷ Kind.Rrc ∷ Kind.BiquadCoefs ∷ Kind.ButterworthSos ∷ Kind.PreemphasisCoefs ∷ Kind.Q14FromF64 ∷ Kind.ToQ14 ∷ Kind.ToF32 ∷ Kind.ToF32Sos ∷ Kind.HannF32 ∷ Kind.HannQ15 ∷ Kind.BlackmanHarrisF32 ∷ Kind.BlackmanHarrisQ15 ∷ Kind.KaiserF32 ∷ Kind.KaiserQ15 ∷ Kind.WindowGain ∷ []

-- the first with the number
abbrev kind_of : ℕ → Option Kind
kind_of number = find (λ kind. kind_number kind == number) kinds

-- every kind is the one that its number finds
of_its_number : (kind : Kind) → kind_of (kind_number kind) ≡ Some kind
of_its_number Kind.Floor = refl
of_its_number Kind.Ceil = refl
of_its_number Kind.Fabs = refl
of_its_number Kind.Sqrt = refl
of_its_number Kind.Sin = refl
of_its_number Kind.Cos = refl
of_its_number Kind.Exp = refl
of_its_number Kind.Pow04 = refl
of_its_number Kind.BesselI0 = refl
of_its_number Kind.KaiserBeta = refl
of_its_number Kind.Kaiserord = refl
of_its_number Kind.HalfbandLen = refl
of_its_number Kind.Delay = refl
of_its_number Kind.LowpassNew = refl
of_its_number Kind.Lowpass = refl
of_its_number Kind.SpecNumTaps = refl
of_its_number Kind.SpecLowpass = refl
of_its_number Kind.SpecDesign = refl
of_its_number Kind.HalfbandNew = refl
of_its_number Kind.Halfband = refl
of_its_number Kind.GaussianNew = refl
of_its_number Kind.Gaussian = refl
of_its_number Kind.ChannelizerTaps = refl
of_its_number Kind.ChannelizerTapsPerBranch = refl
of_its_number Kind.ChannelizerLowpass = refl
of_its_number Kind.ChannelizerPrototype = refl
of_its_number Kind.Q15FromF64 = refl
of_its_number Kind.Q15Tap = refl
of_its_number Kind.ToQ15 = refl
of_its_number Kind.RrcLen = refl
of_its_number Kind.RrcNew = refl
of_its_number Kind.Rrc = refl
of_its_number Kind.BiquadCoefs = refl
of_its_number Kind.ButterworthSos = refl
of_its_number Kind.PreemphasisCoefs = refl
of_its_number Kind.Q14FromF64 = refl
of_its_number Kind.ToQ14 = refl
of_its_number Kind.ToF32 = refl
of_its_number Kind.ToF32Sos = refl
of_its_number Kind.HannF32 = refl
of_its_number Kind.HannQ15 = refl
of_its_number Kind.BlackmanHarrisF32 = refl
of_its_number Kind.BlackmanHarrisQ15 = refl
of_its_number Kind.KaiserF32 = refl
of_its_number Kind.KaiserQ15 = refl
of_its_number Kind.WindowGain = refl

-- what is found has the number
has_it : (number : ℕ) (xs : List Kind) (kind : Kind) → find (λ k. kind_number k == number) xs ≡ Some kind → kind_number kind ≡ number
has_it number [] kind e = cc
has_it number (k ∷ xs) kind e = here (kind_number k == number) refl e (has_it number xs kind) where
  here : (b : Bool) → (kind_number k == number) ≡ b → cond b (Some k) (find (λ j. kind_number j == number) xs) ≡ Some kind → (find (λ j. kind_number j == number) xs ≡ Some kind → kind_number kind ≡ number) → kind_number kind ≡ number
  here true t e later = let same : k ≡ kind = cc in ap kind_number (sym same) ∙ eqb-true (kind_number k) number t
  here false t e later = later e

named : (number : ℕ) (r : Option Kind) (why : UnknownKind) → r ≡ kind_of number → NamesKind number (ok_or r why)
named number (Some kind) why e = has_it number kinds kind (sym e)
named number None why e = λ kind same. let h : ◌≡◌ {A = Option Kind} None (Some kind) = e ∙ ap kind_of (sym same) ∙ of_its_number kind in cc

pub returns : goal.returns
returns c =
    let listed : map (λ p. p.0) c.iter.result.rest.now ≡ kinds = ap (λ xs. map (λ p. p.0) xs) c.iter.ensures.rest in
    let found = find_from_yields_List (λ kind. kind_number kind == c.args.number) _ _ c.find.result c.find.ensures.ran (YieldsList-from_map _ (λ p. p.0) (YieldsList-at c.map-kinds.ensures.source (YieldsList-from_slice c.iter.result.rest.now refl)) c.map-kinds.ensures.closure (λ x r q k. search rules)) (λ x b q k. search (rules, tests)) in
    let is_kind : c.find.result ≡ kind_of c.args.number = sym (option_map_id c.find.result) ∙ found ∙ ap (λ xs. find (λ kind. kind_number kind == c.args.number) xs) listed in
    rw c.ok_or.ensures.value (named c.args.number c.find.result _ is_kind)
