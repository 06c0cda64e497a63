-- What is kept of a label and of a content.
use Rattle.std.specs.Prelude.{ℕ, List}
use Rattle.cp_path.specs.declared.value.Value.TheVariants.{Null, False, True, Whole}
use Rattle.cp_model.specs.declared.row.Content.{Content}
use Rattle.cp_model.specs.declared.row.Content.TheVariants.{Node, Leaf}
use Rattle.cp_tree.specs.declared.label.LabelForm.{LabelForm}
use Rattle.cp_tree.specs.declared.label.LabelForm.TheVariants.{Short, Long}
use Rattle.cp_tree.specs.declared.content.ContentForm.{ContentForm}
use Rattle.cp_tree.specs.declared.content.ContentForm.TheVariants.{Branch, Nil, No, Yes, Number, Other}

-- the text of the label
abbrev pub label_of : LabelForm → List ℕ
label_of (Short s) = s.bytes
label_of (Long l) = l.value

-- the content
abbrev pub content_of : ContentForm → Content
content_of Branch = Node
content_of Nil = Leaf Null
content_of No = Leaf False
content_of Yes = Leaf True
content_of (Number n) = Leaf (Whole n)
content_of (Other c) = c.value
