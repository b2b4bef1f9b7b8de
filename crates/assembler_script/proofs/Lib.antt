pub mod AssemblyTexts
