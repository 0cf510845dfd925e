-- Lists that are appended one after another.
use Rattle.std.proofs.Common.{◌≡◌, List, ◌++◌, append_assoc}
use Rattle.ps_tlsf.specs.declared.stack.Op.{Op}

pub two : (o a b o1 o2 : List Op) → o1 ≡ o ++ a → o2 ≡ o1 ++ b → o2 ≡ o ++ (a ++ b)
two o a b o1 o2 e1 e2 = rw (e2, e1) (simp append_assoc)

module _ (o a b c o1 o2 o3 : List Op) (e1 : o1 ≡ o ++ a) (e2 : o2 ≡ o1 ++ b) (e3 : o3 ≡ o2 ++ c) where
  pub three : o3 ≡ o ++ (a ++ b ++ c)
  three = rw (e3, e2, e1) (simp append_assoc)

  module _ (d o4 : List Op) (e4 : o4 ≡ o3 ++ d) where
    pub four : o4 ≡ o ++ (a ++ b ++ c ++ d)
    four = rw (e4, e3, e2, e1) (simp append_assoc)

    module _ (e o5 : List Op) (e5 : o5 ≡ o4 ++ e) where
      pub five : o5 ≡ o ++ (a ++ b ++ c ++ d ++ e)
      five = rw (e5, e4, e3, e2, e1) (simp append_assoc)

      pub six : (f o6 : List Op) → o6 ≡ o5 ++ f → o6 ≡ o ++ (a ++ b ++ c ++ d ++ e ++ f)
      six f o6 e6 = rw (e6, e5, e4, e3, e2, e1) (simp append_assoc)
