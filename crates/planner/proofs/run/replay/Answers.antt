use Rattle.std.proofs.Common.{◌≡◌, ℕ, ◌+◌, ◌<◌, List, [], ◌∷◌, length, get_or, drop, sym, refl, ap, ◌∙◌, subst, arith, rules}
use Rattle.std.proofs.Math.Seq.{drop-length}
use Rattle.std.proofs.lemmas.List.{drop_more}
use Rattle.terms.specs.declared.terms.Terms.{Terms}
use Rattle.trellis.specs.declared.place.Place.{Place}
use Rattle.planner.specs.declared.call.Call.TheVariants.{Add, TakeBack, Ask}
use Rattle.planner.specs.Promise.{Promise}
use Rattle.planner.specs.Runs.{after_calls, most_standing}
use Rattle.planner.specs.Standing.{standing_blocks}
use Rattle.planner.proofs.Turns.{State, opened, add_turn, back_turn, ask_turn}
use Rattle.planner.proofs.Promises.{promised_at}
use Rattle.planner.proofs.run.replay.Goals as goal
use Rattle.planner.proofs.run.replay.Goals.{in-Add, in-TakeBack, in-Ask}

next_call : {X : Type 0} (xs : List X) (i : ℕ) (x y : X) → i < length xs → x ≡ get_or xs i x → x ≡ y → drop i xs ≡ y ∷ drop (i + 1) xs
next_call xs i x y h is e = drop_more xs i x h ∙ ap (λ v. v ∷ drop (i + 1) xs) (sym is ∙ e)

pub loop-call-init : goal.loop-call-init
loop-call-init g c =
    let p = c.open-planner.result in
    (refl, opened g.K.Kind.model g.S.Source.means p.tables p.places.now c.args.calls.now c.open-planner.ensures.standing p.sound)

pub loop-call-preserved : goal.loop-call-preserved
loop-call-preserved g c =
    let m = g.K.Kind.model in
    let means = g.S.Source.means in
    let terms = c.open-planner.result.tables.terms in
    let start = c.open-planner.result.places.now in
    let calls = c.args.calls.now in
    let end = after_calls means terms (length start) calls [] in
    let most = most_standing means terms (length start) calls [] in
    let p = c.loop-call.planner in
    let i = c.loop-call.call-index in
    let rest = drop (i + 1) calls in
    let inv = c.loop-call.invariant in
    elim c.match-call.branch [
      | in-Add w ↦ (
          let call = Add w.in-Add.source in
          let st : State m means terms end most start (call ∷ rest) p.tables p.places.now = subst (λ cs. State m means terms end most start cs p.tables p.places.now) (next_call calls i c.call-item.result call c.loop-call-test.true c.call-item.is w.in-Add.is) inv.1 in (
            ap (λ q. q.places.ghost_name) w.planner-is ∙ w.add.ensures.same ∙ inv.0,
            subst (λ q. State m means terms end most start rest q.tables q.places.now) (sym w.planner-is)
                (add_turn m means terms end most start w.in-Add.source rest p.tables w.add.new.self.tables p.places.now w.add.new.self.places.now w.add.result w.add.ensures.refused w.add.ensures.left w.add.ensures.long st),
          ))
      | in-TakeBack w ↦ (
          let st : State m means terms end most start (TakeBack ∷ rest) p.tables p.places.now = subst (λ cs. State m means terms end most start cs p.tables p.places.now) (next_call calls i c.call-item.result TakeBack c.loop-call-test.true c.call-item.is w.in-TakeBack.is) inv.1 in (
            ap (λ q. q.places.ghost_name) w.planner-is ∙ w.take_back.ensures.same ∙ inv.0,
            subst (λ q. State m means terms end most start rest q.tables q.places.now) (sym w.planner-is)
                (back_turn m means terms end most start rest p.tables w.take_back.new.self.tables p.places.now w.take_back.new.self.places.now w.take_back.result w.take_back.ensures.refused w.take_back.ensures.left w.take_back.ensures.places st),
          ))
      | in-Ask w ↦ (
          let call = Ask w.in-Ask.question in
          let st : State m means terms end most start (call ∷ rest) p.tables p.places.now = subst (λ cs. State m means terms end most start cs p.tables p.places.now) (next_call calls i c.call-item.result call c.loop-call-test.true c.call-item.is w.in-Ask.is) inv.1 in (
            ap (λ q. q.places.ghost_name) w.planner-is ∙ inv.0,
            subst (λ q. State m means terms end most start rest q.tables q.places.now) (sym w.planner-is) (ask_turn m means terms end most start w.in-Ask.question rest p.tables p.places.now st),
          ))
    ]

pub returns : goal.returns
returns g c =
    let m = g.K.Kind.model in
    let means = g.S.Source.means in
    let opened = c.open-planner.ensures in
    let terms = c.open-planner.result.tables.terms in
    let start = c.open-planner.result.places.now in
    let calls = c.args.calls.now in
    let st = c.loop-call.invariant.1 in
    let p = c.loop-call.planner in
    let done : drop c.loop-call.call-index calls ≡ [] = (let all : c.loop-call.call-index ≡ length calls = omega arith in ap (λ k. drop k calls) all ∙ drop-length calls) in
    let ends : standing_blocks p.tables ≡ after_calls means terms (length start) calls [] = subst (λ cs. after_calls means terms (length start) cs (standing_blocks p.tables) ≡ after_calls means terms (length start) calls []) done st.ends in
    let Whole : Terms → List (Place g.row.K.Denot) → Type 0 = λ t ps. Promise m t (after_calls means t (length ps) calls []) (most_standing means t (length ps) calls []) ps p.places.now c.args.budget c.args.bound c.args.grades.now c.plan-plan.new.grades c.plan-plan.result c.fewest-fewest.result in
    let whole : Whole terms start =
    promised_at g.met.K.Kind.ordered g.met.K.Kind.alike_same p.tables terms _ _ start p.places.now c.args.budget c.args.bound c.args.grades.now c.plan-plan.new.grades c.plan-plan.result c.fewest-fewest.result st.terms_are ends c.plan-plan.ensures.frame c.plan-plan.ensures.answer c.fewest-fewest.ensures.refused c.fewest-fewest.ensures.answer st.sound st.others in
    let all : Whole c.args.terms c.args.places.now = subst (λ ps. Whole c.args.terms ps) opened.places (subst (λ t. Whole t start) opened.terms whole) in
    let same = sym (c.loop-call.invariant.0 ∙ opened.same) in
    search rules
