use Rattle.niss_search.proofs.Words.{length, get_or, may_follow, Follower, IsFollower, append-nil, no_turn, All-push, filter_more, map_push}
use Rattle.niss_search.proofs.Words.{◌≡◌, arith, ap, ◌∙◌, sym, [], List, refl, true, ◌∷◌, Bool, Turn, false, cond, ◌++◌, map, filter, take}
use Rattle.niss_search.proofs.tables.followers.followers_after.Goals.{then-allowed, else-allowed}
use Rattle.niss_search.proofs.tables.followers.followers_after.Goals as goal

pub loop-column-init : goal.loop-column-init
loop-column-init c = record {
  end = refl;
  kept = ap (map (λ (f : Follower). f.turn)) c.new-list.ensures;
  columns = λ k d l. absurd (omega (arith, ap (length {A = Follower}) c.new-list.ensures));
  long = omega (arith, ap (length {A = Follower}) c.new-list.ensures);
}

pub loop-column-preserved : goal.loop-column-preserved
loop-column-preserved c =
    let inv = c.loop-column.invariant in
    let turns = c.turns-turns.result.now in
    let i = c.loop-column.column in
    let t = get_or turns i no_turn in
    let may = may_follow c.args.last in
    let more = filter_more may turns i no_turn c.loop-column-test.true in
    let rule : c.allowed.result ≡ may t = c.allowed.ensures.rule in
    let kept : Bool → List Turn = λ b. filter may (take i turns) ++ cond b (t ∷ []) [] in
    elim c.if-allowed.branch [
      | then-allowed w ↦
          let new : Follower = record { turn = t; column = i; is_idle = w.is_idle.result } in
          let yes : may t ≡ true = sym rule ∙ w.if-allowed.true in
          rw w.list-is (rw w.push.ensures.items record {
            end = refl;
            kept = map_push (λ (f : Follower). f.turn) c.loop-column.list.items new ∙ ap (λ (ts : List Turn). ts ++ t ∷ []) inv.kept ∙ sym (more ∙ ap kept yes);
            columns = All-push (IsFollower c.args.step) c.loop-column.list.items new inv.columns (
              omega (arith, c.loop-column-test.true, ap (length {A = Turn}) c.turns-turns.ensures),
              ap (λ (ts : List Turn). get_or ts i no_turn) (sym c.turns-turns.ensures),
              w.is_idle.ensures,
            );
            long = omega (arith, inv.long, ap (length {A = Follower}) w.push.ensures.items, w.push.ensures.len);
          })
      | else-allowed w ↦
          let no : may t ≡ false = sym rule ∙ w.if-allowed.false in
          rw w.list-is record {
            end = refl;
            kept = inv.kept ∙ sym (more ∙ ap kept no ∙ append-nil (filter may (take i turns)));
            columns = inv.columns;
            long = omega (arith, inv.long);
          }
    ]
