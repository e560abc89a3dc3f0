-- Which statements are left behind the arms of a match.
use Rattle.std.proofs.Common.{◌≡◌, ℕ, List, true, false, true≢false, Option, None, Some, refl, sym, ap, ◌∙◌}
use Rattle.std.specs.Global.{Vec, Box}
use Rattle.lynx_tree.specs.declared.expression.Expr as expr
use Rattle.lynx_tree.specs.declared.statement.Handler.{Handler}
use Rattle.lynx_tree.specs.declared.statement.Stmt as stmt
use Rattle.lynx_tree.specs.declared.statement.Stmt.TheViews.{rolls-If, rolls-While, rolls-Accept, rolls-Try, outs-If', outs-While', outs-Accept', outs-Try'}
use Rattle.lynx_tree.specs.Trees.{stmt_tree}
use Rattle.compiler_emission.specs.Jumps.{has_statements, acts_on_links}

-- a statement is what it is made of
made : (s : stmt.Stmt) {x : stmt.Stmt-F stmt.Stmt Handler} {v : stmt.Stmt} → stmt.out-Stmt s ≡ x → stmt.roll-Stmt x ≡ v → s ≡ v
made s is rolls = sym (stmt.roll-out-Stmt s) ∙ ap stmt.roll-Stmt is ∙ rolls

pub has_none : (s : stmt.Stmt)
    → ((c : Box expr.Expr) (t : Vec stmt.Stmt) (e : Option (Vec stmt.Stmt)) → s ≡ stmt.If c t e → ⊥)
    → ((c : expr.Expr) (b : Vec stmt.Stmt) → s ≡ stmt.While c b → ⊥)
    → ((op link : List ℕ) (xs : Vec (List ℕ)) (b : Vec stmt.Stmt) → s ≡ stmt.Accept op link xs b → ⊥)
    → ((b : Vec stmt.Stmt) (hs : Vec Handler) → s ≡ stmt.Try b hs → ⊥)
    → has_statements (stmt_tree s) ≡ false
has_none (stmt.If' c n t e) choice loop accept try = absurd (choice c _ _ (made (stmt.If' c n t e) (outs-If' c n t e) (rolls-If c _ _)))
has_none (stmt.While' c n b) choice loop accept try = absurd (loop c _ (made (stmt.While' c n b) (outs-While' c n b) (rolls-While c _)))
has_none (stmt.Accept' op link xs n b) choice loop accept try = absurd (accept op link xs _ (made (stmt.Accept' op link xs n b) (outs-Accept' op link xs n b) (rolls-Accept op link xs _)))
has_none (stmt.Try' n b m hs) choice loop accept try = absurd (try _ _ (made (stmt.Try' n b m hs) (outs-Try' n b m hs) (rolls-Try _ _)))
has_none (stmt.Assign name None value) choice loop accept try = refl
has_none (stmt.Assign name (Some index) value) choice loop accept try = refl
has_none _ choice loop accept try = refl

pub on_links : (s : stmt.Stmt) → has_statements (stmt_tree s) ≡ false
    → ((name : List ℕ) (index : Option (Box expr.Expr)) (value : expr.Expr) → s ≡ stmt.Assign name index value → ⊥)
    → ((value : expr.Expr) → s ≡ stmt.Write value → ⊥)
    → ((condition : expr.Expr) → s ≡ stmt.Await condition → ⊥)
    → (s ≡ stmt.Stop → ⊥)
    → ((name : List ℕ) → s ≡ stmt.Raise name → ⊥)
    → acts_on_links (stmt_tree s) ≡ true
on_links (stmt.Assign name index value) none assign write await stop raise = absurd (assign name index value refl)
on_links (stmt.Write value) none assign write await stop raise = absurd (write value refl)
on_links (stmt.Await condition) none assign write await stop raise = absurd (await condition refl)
on_links stmt.Stop none assign write await stop raise = absurd (stop refl)
on_links (stmt.Raise name) none assign write await stop raise = absurd (raise name refl)
on_links (stmt.If' c n t stmt.None') none assign write await stop raise = absurd (true≢false none)
on_links (stmt.If' c n t (stmt.Some' m e)) none assign write await stop raise = absurd (true≢false none)
on_links (stmt.While' c n b) none assign write await stop raise = absurd (true≢false none)
on_links (stmt.Accept' op link xs n b) none assign write await stop raise = absurd (true≢false none)
on_links (stmt.Try' n b m hs) none assign write await stop raise = absurd (true≢false none)
on_links _ none assign write await stop raise = refl

pub no_more_on_links : (s : stmt.Stmt) → acts_on_links (stmt_tree s) ≡ true
    → ((first second : List ℕ) → s ≡ stmt.New first second → ⊥)
    → ((name : List ℕ) → s ≡ stmt.Destroy name → ⊥)
    → ((link entry : List ℕ) → s ≡ stmt.Bind link entry → ⊥)
    → ((link entry : List ℕ) → s ≡ stmt.Unbind link entry → ⊥)
    → ((op link : List ℕ) (values : Vec expr.Expr) (results : Vec (List ℕ)) → s ≡ stmt.Connect op link values results → ⊥)
    → ((values : Vec expr.Expr) → s ≡ stmt.Reply values → ⊥)
    → ⊥
no_more_on_links (stmt.New first second) is new destroy bind unbind connect reply = new first second refl
no_more_on_links (stmt.Destroy name) is new destroy bind unbind connect reply = destroy name refl
no_more_on_links (stmt.Bind link entry) is new destroy bind unbind connect reply = bind link entry refl
no_more_on_links (stmt.Unbind link entry) is new destroy bind unbind connect reply = unbind link entry refl
no_more_on_links (stmt.Connect op link values results) is new destroy bind unbind connect reply = connect op link values results refl
no_more_on_links (stmt.Reply values) is new destroy bind unbind connect reply = reply values refl
no_more_on_links (stmt.Assign name None value) is new destroy bind unbind connect reply = absurd (true≢false (sym is))
no_more_on_links (stmt.Assign name (Some index) value) is new destroy bind unbind connect reply = absurd (true≢false (sym is))
no_more_on_links (stmt.If' c n t stmt.None') is new destroy bind unbind connect reply = absurd (true≢false (sym is))
no_more_on_links (stmt.If' c n t (stmt.Some' m e)) is new destroy bind unbind connect reply = absurd (true≢false (sym is))
no_more_on_links _ is new destroy bind unbind connect reply = absurd (true≢false (sym is))
